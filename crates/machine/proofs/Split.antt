-- Cells in range, as the code tests them: every one a nibble, those that the chip lacks 0, and seven by the bits that stay there.
-- Assumes nothing.
use mathlib.Core.Path.{◌≡◌, ◌∙◌, ap, refl, subst, sym}
use mathlib.Core.Bool.{Bool, true, false, ◌&&◌, ◌||◌, and-false}
use mathlib.Core.List.{List}
use Prim.Native.Nat.{ℕ, ◌<◌}
use native.Mathlib.Omega.{arith}
use borrow.Author.Tests.{eqb-true, eqb-false, eq-eqb, lt-ltb, ltb-true}
use lib.Dec.{T, eqb, eqb→eq}
use lib.ListN.{get_or}
use Rattle.laws.specs.Every.{every}
use Rattle.laws.proofs.Every.{and_left, and_right, and_both, every_at_lem, every_of, passed, holds}
use Rattle.memory.proofs.Staying.{whole, kept_nibble, nibble_kept}
use Rattle.memory.proofs.Writes.{none_kept}
use Rattle.memory.specs.Chip.{chip_of}
use Rattle.memory.specs.Names.{P0E, AR3, AR2, BANK, IXH, IXM, RPH}
use Rattle.memory.specs.Range.{cell_in_range, cells_in_range}
use Rattle.memory.specs.declared.Model.{Model}
use Rattle.machine.specs.FixedBits.{empty_if_missing, fixed_in_range}
use Rattle.machine.specs.Ranges.{is_nibble}

-- two tests that pass together
same : (a b : Bool) → (T a → T b) → (T b → T a) → a ≡ b
same true true f g = refl
same true false f g = absurd (f tt)
same false true f g = absurd (g tt)
same false false f g = refl

module _ (model : Model) (cells : List ℕ) where
  abbrev fits : ℕ → Bool
  fits = cell_in_range (chip_of model) cells

  abbrev empty : ℕ → Bool
  empty = empty_if_missing (chip_of model) cells

  abbrev seven : Bool
  seven = fixed_in_range (chip_of model) cells

  abbrev rest : Bool
  rest = every empty 128 && seven

  small : (k : ℕ) → k < 128 → T (fits k) → T (is_nibble cells k)
  small k h t = passed (lt-ltb _ _ (kept_nibble model k (get_or cells k 0) h (eqb→eq _ _ t)))

  -- a cell that fits is 0 where it is missing
  lacking : (k : ℕ) (b : Bool) → (chip_of model).installed k ≡ b → T (fits k) → T (b || eqb (get_or cells k 0) 0)
  lacking k true i t = tt
  lacking k false i t = passed (eq-eqb (get_or cells k 0) 0 (sym (eqb→eq _ _ t) ∙ none_kept (chip_of model) k (get_or cells k 0) i))

  -- from the whole to the parts
  parts : T (every fits 128) → T (every (is_nibble cells) 128 && rest)
  parts t =
      let at : (k : ℕ) → k < 128 → T (fits k) = every_at_lem fits 128 t in
      and_both (every (is_nibble cells) 128) rest
      (every_of (is_nibble cells) 128 (λ k h. small k h (at k h)))
      (and_both (every empty 128) seven
      (every_of empty 128 (λ k h. lacking k ((chip_of model).installed k) refl (at k h)))
      (and_both (fits AR3) _ (at AR3 (omega arith)) (and_both (fits BANK) _ (at BANK (omega arith)) (and_both (fits RPH) _ (at RPH (omega arith))
      (and_both (fits AR2) _ (at AR2 (omega arith)) (and_both (fits IXH) _ (at IXH (omega arith)) (and_both (fits IXM) _ (at IXM (omega arith))
      (at P0E (omega arith)))))))))

  -- a cell that is the named one, or another
  either : (k at : ℕ) (b : Bool) → eqb k at ≡ b → T (fits at) → ((k ≡ at → ⊥) → T (fits k)) → T (fits k)
  either k at true e t other = subst (λ (j : ℕ). T (fits j)) (sym (eqb-true k at e)) t
  either k at false e t other = other (eqb-false k at e)

  first : (k at : ℕ) (rest : Bool) → T (fits at && rest) → (T rest → (k ≡ at → ⊥) → T (fits k)) → T (fits k)
  first k at rest t other = either k at _ refl (and_left (fits at) rest t) (other (and_right (fits at) rest t))

  each : T seven → (k : ℕ) → k < 128 → (chip_of model).installed k ≡ true → T (is_nibble cells k) → T (fits k)
  each t k h i n =
      first k AR3 _ t (λ t ar3. first k BANK _ t (λ t bank. first k RPH _ t (λ t rph. first k AR2 _ t (λ t ar2.
      first k IXH _ t (λ t ixh. first k IXM _ t (λ t ixm. either k P0E _ refl t (λ p0e.
      passed (eq-eqb _ _ (nibble_kept model k (get_or cells k 0) i (whole k h ar3 bank rph ar2 ixh ixm p0e) (ltb-true (get_or cells k 0) 16 (holds n)))))))))))

  -- installed or missing
  one : T seven → (k : ℕ) → k < 128 → T (is_nibble cells k) → (b : Bool) → (chip_of model).installed k ≡ b → T (b || eqb (get_or cells k 0) 0) → T (fits k)
  one s k h n true i e = each s k h i n
  one s k h n false i e = passed (eq-eqb _ _ (none_kept (chip_of model) k (get_or cells k 0) i ∙ sym (eqb→eq (get_or cells k 0) 0 e)))

  -- and back
  joined : T (every (is_nibble cells) 128 && rest) → T (every fits 128)
  joined t =
      let nibbles = and_left (every (is_nibble cells) 128) rest t in
      let others = and_right (every (is_nibble cells) 128) rest t in
      every_of fits 128 (λ k h.
      one (and_right (every empty 128) seven others) k h (every_at_lem (is_nibble cells) 128 nibbles k h) ((chip_of model).installed k) refl
      (every_at_lem empty 128 (and_left (every empty 128) seven others) k h))

  pub split : (every (is_nibble cells) 128 && rest) ≡ cells_in_range (chip_of model) cells
  unfolding cells_in_range
  split = same (every (is_nibble cells) 128 && rest) (every fits 128) joined parts

  -- in the order of the code
  pub by_tests : (e n f : Bool) → e ≡ every empty 128 → n ≡ every (is_nibble cells) 128 → f ≡ seven → (e && (n && f)) ≡ cells_in_range (chip_of model) cells
  by_tests true n f p q r = rw (q, r) (ap (λ (b : Bool). every (is_nibble cells) 128 && (b && seven)) p ∙ split)
  by_tests false n f p q r =
      sym (ap (λ (b : Bool). every (is_nibble cells) 128 && (b && seven)) (sym p) ∙ and-false (every (is_nibble cells) 128)) ∙ split
