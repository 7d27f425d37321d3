use Rattle.std.proofs.Common.{◌≡◌, true}
use Rattle.laws.specs.Every.{every}
use Rattle.peripherals.specs.Range.{register_in_range}
use Rattle.peripherals.proofs.ranges.in_range.Given as goal

abbrev pub invariant-loop-at : goal.invariant-loop-at
invariant-loop-at l = every (register_in_range l.held-items) l.at ≡ true
