-- A record in range stays in range, whatever the inputs and the ROM. Proved in proofs/Ranges.antt.
-- Assumes nothing.
use Rattle.std.specs.Prelude.{◌≡◌, true, List, ℕ}
use Rattle.memory.specs.Chip.{Chip}
use Rattle.machine.specs.Ranges.{machine_in_range}
use Rattle.machine.specs.Signals.{Signals}
use Rattle.machine.specs.declared.Machine.{Machine}
use Rattle.cpu.specs.Run.{run_of}
use Rattle.cpu.specs.Step.{step_of}

pub record RangeLaws (chip : Chip) : Type 0 where
  pub step : (rom : List ℕ) (signals : Signals) (m : Machine) → machine_in_range chip m ≡ true
      → machine_in_range chip (step_of chip rom signals m).machine ≡ true
  pub run : (rom : List ℕ) (signals : Signals) (budget : ℕ) (m : Machine) → machine_in_range chip m ≡ true
      → machine_in_range chip (run_of chip rom signals budget m).machine ≡ true
