-- What a step counts for, in steps and in instruction cycles: document 02, E3.
-- Assumes nothing.
use Rattle.std.specs.Prelude.{List, ℕ, ◌+◌}
use Rattle.memory.specs.Chip.{Chip}
use Rattle.machine.specs.Signals.{Signals}
use Rattle.machine.specs.declared.Machine.{Machine}
use Rattle.cpu.specs.Cycles.{next_cycles}
use Rattle.cpu.specs.Reply.{Reply, done, in_standby, refused}
use Rattle.cpu.specs.Step.{step_of}
use Rattle.cpu.specs.declared.Count.{Count}

abbrev pub none : Count
none = record { steps = 0; cycles = 0 }

abbrev pub plus : Count → Count → Count
plus a b = record { steps = a.steps + b.steps; cycles = a.cycles + b.cycles }

-- a completed step counts for one step and its cycles; one that answers "standing", or is refused, for nothing
abbrev pub cost_of : ℕ → Reply → Count
cost_of cycles done = record { steps = 1; cycles = cycles }
cost_of cycles in_standby = none
cost_of cycles (refused n) = none

abbrev pub step_cost : Chip → List ℕ → Signals → Machine → Count
step_cost chip rom signals m = cost_of (next_cycles rom m) (step_of chip rom signals m).reply
