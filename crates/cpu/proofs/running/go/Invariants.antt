use mathlib.Core.Path.{◌≡◌}
use mathlib.Core.Bool.{true, false, ◌&&◌}
use mathlib.Core.List.{List}
use Prim.Native.Nat.{ℕ, ◌-◌}
use lib.Dec.{eqb}
use Rattle.memory.specs.Chip.{chip_of}
use Rattle.cpu.specs.Joined.{signals_at, whole_of}
use Rattle.machine.specs.Parts.{is_marked}
use Rattle.machine.specs.Ranges.{all_in_range}
use Rattle.peripherals.specs.Parts.{with_timer}
use Rattle.peripherals.specs.Pace.{Quiet}
use Rattle.cpu.proofs.Loop.{Going}
use Rattle.cpu.proofs.running.go.Given as goal

abbrev pub invariant-loop-steps : goal.invariant-loop-steps
invariant-loop-steps l = ((directions : List ℕ) (release : ℕ) → all_in_range (chip_of l.model) l.rom (whole_of l.initial.cells l.initial.stack (with_timer l.initial.registers l.initial.timer) l.initial.regs) (signals_at l.pins directions release l.pulse) ≡ true → (is_marked l.initial.regs.standby && eqb release 0) ≡ false → Going (chip_of l.model) l.rom (signals_at l.pins directions release l.pulse) l.budget (whole_of l.initial.cells l.initial.stack (with_timer l.initial.registers l.initial.timer) l.initial.regs) (record { steps = l.steps; cycles = l.cycles }) (whole_of l.cells l.stack (with_timer l.registers l.timer) l.regs)) × Quiet (with_timer l.registers l.timer) l.pulse l.timer.quiet

abbrev pub decreases-loop-steps : goal.decreases-loop-steps
decreases-loop-steps l = l.budget - l.steps
