-- Reading a file from the front: what is read and the bytes that are left, or the first refusal.
-- Assumes nothing.
use Rattle.std.specs.Prelude.{Bool, cond, List, [], ◌∷◌, ℕ, zero, suc, ◌+◌, ◌*◌}

pub data Reading (A : Type 0) : Type 0 where
  got : A → List ℕ → Reading A
  refused : ℕ → Reading A

-- what comes next is read from the bytes that are left
abbrev pub and_then : {A B : Type 0} → Reading A → (A → List ℕ → Reading B) → Reading B
and_then (got v rest) f = f v rest
and_then (refused n) f = refused n

-- a value that fails its test is refused
abbrev pub tested : (ℕ → Bool) → ℕ → Reading ℕ → Reading ℕ
tested ok n (got v rest) = cond (ok v) (got v rest) (refused n)
tested ok n (refused m) = refused m

-- refusal 21: "the file ends too early"
abbrev pub byte : List ℕ → Reading ℕ
byte [] = refused 21
byte (b ∷ rest) = got b rest

-- a number of so many bytes, "high byte first"
abbrev pub number_from : ℕ → ℕ → List ℕ → Reading ℕ
number_from v zero xs = got v xs
number_from v (suc n) [] = refused 21
number_from v (suc n) (b ∷ rest) = number_from (v * 256 + b) n rest

unfoldable pub number : ℕ → List ℕ → Reading ℕ
number n xs = number_from 0 n xs

-- so many fields one after the other; a field knows its index
abbrev pub fields : (ℕ → List ℕ → Reading ℕ) → ℕ → ℕ → List ℕ → Reading (List ℕ)
fields field k zero xs = got [] xs
fields field k (suc n) xs =
    and_then (field k xs) (λ (v : ℕ) (rest : List ℕ).
    and_then (fields field (suc k) n rest) (λ (vs : List ℕ) (last : List ℕ). got (v ∷ vs) last))
