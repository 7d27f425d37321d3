-- The first number at which a test fails.
-- Assumes nothing.
use Rattle.std.specs.Prelude.{Bool, cond, ℕ, zero, suc}

-- from k on, and among so many
abbrev pub first_from : (ℕ → Bool) → ℕ → ℕ → ℕ
first_from f k zero = k
first_from f k (suc n) = let rest = first_from f (suc k) n in cond (f k) rest k

-- the first of 0 to n - 1, or n where there is none
abbrev pub first_false : (ℕ → Bool) → ℕ → ℕ
first_false f n = first_from f 0 n
