-- What a reading that answers has read, step by step; and how steps that answer go together.
-- Assumes nothing.
use mathlib.Core.Path.{◌≡◌, ◌∙◌, ap, refl, sym}
use mathlib.Core.Bool.{Bool, true, false, cond}
use mathlib.Core.List.{List}
use Prim.Native.Nat.{ℕ}
use native.Mathlib.Omega.{arith}
use Rattle.station_file.specs.Reading.{Reading, got, refused, and_then, tested}

pub not_got : {A : Type 0} (n : ℕ) (v : A) (rest : List ℕ) → refused n ≡ got v rest → ⊥
not_got n v rest e = let z : ◌≡◌ {A = ℕ} 0 1 = cc in omega arith

-- a step that answered, and the next
pub record Step {A B : Type 0} (r : Reading A) (f : A → List ℕ → Reading B) (out : Reading B) : Type 0 where
  pub value : A
  pub left : List ℕ
  pub first : r ≡ got value left
  pub then : f value left ≡ out

pub got_then : {A B : Type 0} (r : Reading A) (f : A → List ℕ → Reading B) (v : B) (rest : List ℕ)
    → and_then r f ≡ got v rest → Step r f (got v rest)
got_then (got u left) f v rest e = record { value = u; left = left; first = refl; then = e }
got_then (refused n) f v rest e = absurd (not_got n v rest e)

-- a value that passed its test
passed_from : (b : Bool) (u : ℕ) (left : List ℕ) (n v : ℕ) (rest : List ℕ) → cond b (got u left) (refused n) ≡ got v rest
    → (got u left ≡ got v rest) × (b ≡ true)
passed_from true u left n v rest e = (e, refl)
passed_from false u left n v rest e = absurd (not_got n v rest e)

pub got_tested : (ok : ℕ → Bool) (n : ℕ) (r : Reading ℕ) (v : ℕ) (rest : List ℕ) → tested ok n r ≡ got v rest → (r ≡ got v rest) × (ok v ≡ true)
got_tested ok n (got u left) v rest e =
    let p = passed_from (ok u) u left n v rest e in
    let same : ◌≡◌ {A = Reading ℕ} (got u left) (got v rest) = p.0 in
    let q : u ≡ v = cc in
    (p.0, ap ok (sym q) ∙ p.1)
got_tested ok n (refused m) v rest e = absurd (not_got m v rest e)
