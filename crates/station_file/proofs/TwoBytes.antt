-- A number of two bytes, at the front of a list.
-- Assumes nothing.
use mathlib.Core.Path.{◌≡◌, refl, ap}
use mathlib.Core.List.{List, [], ◌∷◌}
use Prim.Native.Nat.{ℕ, ◌+◌, ◌*◌, ◌<◌, ◌≤◌}
use native.Mathlib.Omega.{arith}
use lib.ListN.{length, drop, get_or}
use Rattle.station_file.specs.Reading.{got, refused, number}

pub short : (xs : List ℕ) → length xs < 2 → number 2 xs ≡ refused 21
unfolding number
short [] h = refl
short (a ∷ []) h = refl
short (a ∷ b ∷ xs) h = absurd (omega arith)

pub long : (xs : List ℕ) → 2 ≤ length xs → number 2 xs ≡ got (get_or xs 0 0 * 256 + get_or xs 1 0) (drop 2 xs)
unfolding number
long [] h = absurd (omega arith)
long (a ∷ []) h = absurd (omega arith)
long (a ∷ b ∷ xs) h =
    let z : (0 * 256 + a) * 256 + b ≡ a * 256 + b = omega arith in
    ap (λ (v : ℕ). got v xs) z
