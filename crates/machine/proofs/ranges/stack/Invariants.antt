use Rattle.std.proofs.Common.{◌≡◌, true}
use Rattle.laws.specs.Every.{every}
use Rattle.memory.specs.Chip.{chip_of}
use Rattle.machine.specs.Ranges.{level_in_range}
use Rattle.machine.proofs.ranges.stack.Given as goal

abbrev pub invariant-loop-k : goal.invariant-loop-k
invariant-loop-k l = every (level_in_range (chip_of l.model) l.c) l.k ≡ true
