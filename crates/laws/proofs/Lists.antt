-- What a list holds inside and past its end, whatever the default.
-- Assumes nothing.
use mathlib.Core.Path.{◌≡◌, refl}
use mathlib.Core.List.{List, [], ◌∷◌}
use Prim.Native.Nat.{ℕ, zero, suc, ◌<◌, ◌≤◌}
use native.Mathlib.Nat.{le_of_suc-le-suc, not-suc-le-zero}
use lib.ListN.{get_or, length}

pub slice_index_inside : {A : Type 0} (xs : List A) (i : ℕ) (d e : A) → i < length xs → get_or xs i d ≡ get_or xs i e
slice_index_inside [] i d e h = absurd (not-suc-le-zero h)
slice_index_inside (x ∷ xs) zero d e h = refl
slice_index_inside (x ∷ xs) (suc i) d e h = slice_index_inside xs i d e (le_of_suc-le-suc h)

pub slice_index_past : {A : Type 0} (xs : List A) (i : ℕ) (d : A) → length xs ≤ i → get_or xs i d ≡ d
slice_index_past [] i d h = refl
slice_index_past (x ∷ xs) zero d h = absurd (not-suc-le-zero h)
slice_index_past (x ∷ xs) (suc i) d h = slice_index_past xs i d (le_of_suc-le-suc h)
