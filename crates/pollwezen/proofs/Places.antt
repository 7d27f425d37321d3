-- A list whose places are read one by one is the list.
-- Assumes nothing.
use mathlib.Core.Path.{◌≡◌, ◌∙◌, ap, sym}
use mathlib.Core.List.{List, [], ◌∷◌}
use Prim.Native.Nat.{ℕ, zero, suc, ◌+◌}
use native.Mathlib.Omega.{arith}
use lib.ListN.{drop, drop_of_length-le, get_or, length}
use lib.Seq.{drop-cons}

-- so many places from one on
abbrev pub read_from : ℕ → ℕ → List ℕ → List ℕ
read_from zero k xs = []
read_from (suc n) k xs = get_or xs k 0 ∷ read_from n (suc k) xs

rest : (n k : ℕ) (xs : List ℕ) → length xs ≡ k + n → read_from n k xs ≡ drop k xs
rest zero k xs e = sym (drop_of_length-le xs {i = k} (omega arith))
rest (suc n) k xs e =
    ap (λ (ys : List ℕ). get_or xs k 0 ∷ ys) (rest n (suc k) xs (omega arith)) ∙ sym (drop-cons xs k 0 (omega arith))

pub read_all : (n : ℕ) (xs : List ℕ) → length xs ≡ n → read_from n 0 xs ≡ xs
read_all n xs e = rest n 0 xs (omega arith)
