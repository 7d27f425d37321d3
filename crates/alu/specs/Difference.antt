-- The signed difference of document 01, "Results": from -16 to 15.
-- Assumes nothing.
use Rattle.std.specs.Prelude.{cond, ℕ, ◌+◌, ◌-◌, leb}

pub data Difference : Type 0 where
  plus : ℕ → Difference
  minus : ℕ → Difference

-- a less b less the carry, 0 or 1
unfoldable pub difference_of : ℕ → ℕ → ℕ → Difference
difference_of a b c = cond (leb (b + c) a) (plus (a - (b + c))) (minus (b + c - a))
