-- The cells while the write passes over their places: written once the place is passed.
-- Assumes nothing.
use Rattle.std.proofs.Common.{◌≡◌, ℕ, ◌+◌, ◌<◌, ◌≤◌, Bool, true, false, cond, ltb, List, length, get_or, set, sym, refl, ap, ◌∙◌, arith, ltb-false, ltb-true, le-ltb, lt-ltb}
use lib.Seq.{set-get_or, set_comm, set_out}

-- the first i places are passed
abbrev pub passed : List ℕ → ℕ → ℕ → ℕ → List ℕ
passed cells at kept i = cond (ltb at i) (set cells at kept) cells

module _ (cells : List ℕ) (at kept : ℕ) where
  pub at_first : cells ≡ passed cells at kept 0
  at_first = rw (le-ltb at 0 (omega arith))

  pub here : (i : ℕ) → i ≡ at → set (passed cells at kept i) i kept ≡ passed cells at kept (i + 1)
  here i e = rw (e, le-ltb at at (omega arith), lt-ltb at (at + 1) (omega arith))

  elsewhere_by : (b : Bool) (i : ℕ) → ltb at i ≡ b → (i ≡ at → ⊥) → set (cond b (set cells at kept) cells) i (get_or cells i 0) ≡ passed cells at kept (i + 1)
  elsewhere_by true i e n =
      let l : at < i = ltb-true at i e in
      rw (lt-ltb at (i + 1) (omega arith)) (set_comm cells at i kept (get_or cells i 0) (λ (q : at ≡ i). n (sym q)) ∙ ap (λ (x : List ℕ). set x at kept) (set-get_or cells i 0))
  elsewhere_by false i e n =
      let l : i ≤ at = ltb-false at i e in
      rw (le-ltb at (i + 1) (omega (arith, n))) (set-get_or cells i 0)

  pub elsewhere : (i : ℕ) → (i ≡ at → ⊥) → set (passed cells at kept i) i (get_or cells i 0) ≡ passed cells at kept (i + 1)
  elsewhere i n = elsewhere_by (ltb at i) i refl n

  rewritten_by : (b : Bool) (i : ℕ) → ltb at i ≡ b → (i ≡ at → ⊥) → cond b (set cells at kept) cells ≡ passed cells at kept (i + 1)
  rewritten_by true i e n = let l : at < i = ltb-true at i e in rw (lt-ltb at (i + 1) (omega arith))
  rewritten_by false i e n = let l : i ≤ at = ltb-false at i e in rw (le-ltb at (i + 1) (omega (arith, n)))

  -- what stands there is written again
  pub rewritten : (i : ℕ) → (i ≡ at → ⊥) → set (passed cells at kept i) i (get_or (passed cells at kept i) i 0) ≡ passed cells at kept (i + 1)
  rewritten i n = set-get_or (passed cells at kept i) i 0 ∙ rewritten_by (ltb at i) i refl n

  at_last_by : (b : Bool) → ltb at 128 ≡ b → length cells ≡ 128 → cond b (set cells at kept) cells ≡ set cells at kept
  at_last_by true e l = refl
  at_last_by false e l = sym (set_out cells at kept (let h : 128 ≤ at = ltb-false at 128 e in omega (arith, l)))

  pub at_last : length cells ≡ 128 → passed cells at kept 128 ≡ set cells at kept
  at_last l = at_last_by (ltb at 128) refl l
