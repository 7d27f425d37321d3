-- A place of the stack as the code tests it.
-- Assumes nothing.
use mathlib.Core.Path.{◌≡◌}
use mathlib.Core.Bool.{Bool, cond}
use Prim.Native.Nat.{ℕ, ◌^◌}
use lib.Dec.{eqb, ltb}
use lib.ListN.{get_or}
use Rattle.memory.specs.Chip.{Chip}
use Rattle.machine.specs.declared.Control.{Control}
use Rattle.machine.specs.Ranges.{level_in_range}

-- by an address that is the place's
pub tested : (chip : Chip) (c : Control) (k address : ℕ) (b : Bool) → b ≡ cond (ltb k c.levels) (ltb address (2 ^ chip.pc_bits)) (eqb address 0)
    → address ≡ get_or c.stack k 0 → b ≡ level_in_range chip c k
tested chip c k address b e q = rw q at e
