-- A test that passes at some number below a bound.
-- Assumes nothing.
use mathlib.Core.Path.{◌≡◌, refl}
use mathlib.Core.Logic.{⊎_elim}
use mathlib.Core.Bool.{Bool, true, false}
use Prim.Native.Nat.{ℕ, zero, suc, ◌<◌}
use native.Mathlib.Nat.{eq-or-lt_of_le, le_of_suc-le-suc, le_refl, le_step, not-suc-le-zero}
use Rattle.laws.specs.Every.{some}
use Rattle.laws.proofs.Booleans.{or_left, or_right}

pub some_of : (f : ℕ → Bool) (n k : ℕ) → k < n → f k ≡ true → some f n ≡ true
some_of f zero k h e = absurd (not-suc-le-zero h)
some_of f (suc n) k h e =
    ⊎_elim (λ (q : k ≡ n). or_left (f n) (some f n) (rw (← q) e)) (λ (l : k < n). or_right (f n) (some f n) (some_of f n k l e))
    (eq-or-lt_of_le (le_of_suc-le-suc h))

pub some_none : (f : ℕ → Bool) (n : ℕ) → ((k : ℕ) → k < n → f k ≡ false) → some f n ≡ false
some_none f zero h = refl
some_none f (suc n) h = rw (h n (le_refl (suc n))) (some_none f n (λ k l. h k (le_step l)))
