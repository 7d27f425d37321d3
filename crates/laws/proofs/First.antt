-- What the first failure of a test is, and when there is none.
-- Assumes nothing.
use mathlib.Core.Path.{◌≡◌, ◌∙◌, refl, sym, subst}
use mathlib.Core.Bool.{Bool, true, false, cond}
use mathlib.Core.Logic.{⊎_elim}
use Prim.Native.Nat.{ℕ, zero, suc, ◌+◌, ◌<◌, ◌≤◌}
use native.Mathlib.Nat.{suc-add, add-suc, eq-or-lt_of_le}
use native.Mathlib.Omega.{arith}
use borrow.Author.Tests.{ltb-true, ltb-false}
use lib.Dec.{ltb}
use Rattle.laws.specs.First.{first_from}

module _ (f : ℕ → Bool) where
  -- the test passes at each number from k up to j
  abbrev pub Clear : ℕ → ℕ → Type 0
  Clear k j = (i : ℕ) → k ≤ i → i < j → f i ≡ true

  pub clear_more : (k j : ℕ) → Clear k j → f j ≡ true → Clear k (j + 1)
  clear_more k j c e i l u =
      let m : i ≤ j = omega arith in
      ⊎_elim (λ (q : i ≡ j). subst (λ (x : ℕ). f x ≡ true) (sym q) e) (λ (q : i < j). c i l q) (eq-or-lt_of_le m)

  pub record First (k end j : ℕ) : Type 0 where
    pub low : k ≤ j
    pub high : j ≤ end
    pub clear : Clear k j
    pub fails : j < end → f j ≡ false

  step : (b : Bool) (k end j : ℕ) → f k ≡ b → k < end → First (suc k) end j → First k end (cond b j k)
  step true k end j e h r = record {
    low = omega (arith, r.low);
    high = r.high;
    clear = λ i l u. ⊎_elim (λ (q : k ≡ i). subst (λ (x : ℕ). f x ≡ true) q e) (λ (m : k < i). r.clear i m u) (eq-or-lt_of_le l);
    fails = r.fails;
  }
  step false k end j e h r = record {
    low = omega arith;
    high = omega arith;
    clear = λ i l u. absurd (omega arith);
    fails = λ _. e;
  }

  pub first_from_lem : (k n : ℕ) → First k (k + n) (first_from f k n)
  first_from_lem k zero = record {
    low = omega arith;
    high = omega arith;
    clear = λ i l u. absurd (omega arith);
    fails = λ h. absurd (omega arith);
  }
  first_from_lem k (suc n) =
      let r : First (suc k) (k + suc n) (first_from f (suc k) n) = subst (λ (x : ℕ). First (suc k) x (first_from f (suc k) n)) (suc-add k n ∙ sym (add-suc k n)) (first_from_lem (suc k) n) in
      step (f k) k (k + suc n) (first_from f (suc k) n) refl (omega arith) r

  not_both : (x : ℕ) → f x ≡ true → f x ≡ false → ⊥
  not_both x p q = let z : ◌≡◌ {A = ℕ} 0 1 = cc in omega arith

  one_first : (k end i j : ℕ) (b c : Bool) → ltb i j ≡ b → ltb j i ≡ c → First k end i → First k end j → i ≡ j
  one_first k end i j true c p q r s =
      let l : i < j = ltb-true i j p in
      absurd (not_both i (s.clear i r.low l) (r.fails (omega (arith, s.high))))
  one_first k end i j false true p q r s =
      let l : j < i = ltb-true j i q in
      absurd (not_both j (r.clear j s.low l) (s.fails (omega (arith, r.high))))
  one_first k end i j false false p q r s = omega (arith, ltb-false i j p, ltb-false j i q)

  -- a number before which all is clear, and which fails or is the end, is the first
  pub first_is : (k n j : ℕ) → First k (k + n) j → j ≡ first_from f k n
  first_is k n j r = one_first k (k + n) j (first_from f k n) (ltb j (first_from f k n)) (ltb (first_from f k n) j) refl refl r (first_from_lem k n)
