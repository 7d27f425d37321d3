-- A test at each number below a bound holds at one of them; and the other way.
-- Assumes nothing.
use mathlib.Core.Path.{◌≡◌, ◌∙◌, subst, sym}
use mathlib.Core.Logic.{⊎_elim}
use mathlib.Core.Bool.{Bool, true, false, ◌&&◌, false≢true}
use Prim.Native.Nat.{ℕ, zero, suc, ◌<◌}
use native.Mathlib.Nat.{eq-or-lt_of_le, le_of_suc-le-suc, le_refl, le_step, not-suc-le-zero}
use lib.Dec.{T}
use Rattle.laws.specs.Every.{every}
use Rattle.laws.proofs.Booleans.{not_passed}

pub and_left : (a b : Bool) → T (a && b) → T a
and_left true b t = tt
and_left false b t = t

pub and_right : (a b : Bool) → T (a && b) → T b
and_right true b t = t
and_right false b t = absurd t

pub every_at_lem : (f : ℕ → Bool) (n : ℕ) → T (every f n) → (k : ℕ) → k < n → T (f k)
every_at_lem f zero t k h = absurd (not-suc-le-zero h)
every_at_lem f (suc n) t k h =
    ⊎_elim (λ (e : k ≡ n). subst (λ (j : ℕ). T (f j)) (sym e) (and_left (f n) (every f n) t))
    (λ (l : k < n). every_at_lem f n (and_right (f n) (every f n) t) k l) (eq-or-lt_of_le (le_of_suc-le-suc h))

pub and_both : (a b : Bool) → T a → T b → T (a && b)
and_both true b s t = t
and_both false b s t = s

pub every_of : (f : ℕ → Bool) (n : ℕ) → ((k : ℕ) → k < n → T (f k)) → T (every f n)
every_of f zero h = tt
every_of f (suc n) h =
    and_both (f n) (every f n) (h n (le_refl (suc n))) (every_of f n (λ k l. h k (le_step l)))

-- a test as an equation and as a type
pub passed : {b : Bool} → b ≡ true → T b
passed e = subst T (sym e) tt

pub holds : {b : Bool} → T b → b ≡ true
holds {b} t = go b t
  where
    go : (x : Bool) → T x → x ≡ true
    go true u = λ _. true
    go false u = absurd u

-- it fails where the test fails at one of them
pub every_not : (f : ℕ → Bool) (n k : ℕ) → k < n → f k ≡ false → every f n ≡ false
every_not f n k h e =
    not_passed (every f n) (λ p. false≢true (sym e ∙ holds (every_at_lem f n (passed p) k h)))
