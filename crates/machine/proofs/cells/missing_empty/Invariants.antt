use mathlib.Core.Path.{◌≡◌}
use lib.Dec.{eqb}
use Rattle.laws.specs.Every.{every}
use Rattle.memory.specs.Chip.{chip_of}
use Rattle.machine.specs.FixedBits.{empty_if_missing}
use Rattle.machine.proofs.cells.missing_empty.Given as goal

abbrev pub invariant-loop-at : goal.invariant-loop-at
invariant-loop-at l = eqb l.bits 0 ≡ every (empty_if_missing (chip_of l.model) l.cells) l.at
