-- A pulse comes where the number of periods grows.
-- Assumes nothing.
use Rattle.std.proofs.Common.{◌≡◌, ℕ, ◌-◌, ◌<◌, ◌≤◌, Bool, true, false, ltb, sym, refl, arith, ltb-false, ltb-true, le-ltb, lt-ltb}

crossing_by : (a b : ℕ) (t : Bool) → ltb a b ≡ t → t ≡ ltb 0 (b - a)
crossing_by a b true e = let l : a < b = ltb-true a b e in sym (lt-ltb 0 (b - a) (omega arith))
crossing_by a b false e = let l : b ≤ a = ltb-false a b e in sym (le-ltb 0 (b - a) (omega arith))

pub crossing : (a b : ℕ) → ltb a b ≡ ltb 0 (b - a)
crossing a b = crossing_by a b (ltb a b) refl
