-- What the input record's directions count for: document 02, E4, "a record's direction nibbles are range-checked and not read". Proved
-- in proofs/Directions.antt.
-- Assumes nothing.
use Rattle.std.specs.Prelude.{◌≡◌, List, ℕ}
use Rattle.memory.specs.Chip.{Chip}
use Rattle.machine.specs.Ranges.{five_nibbles}
use Rattle.machine.specs.Signals.{Signals}
use Rattle.machine.specs.declared.Machine.{Machine}
use Rattle.cpu.specs.Run.{run_of}
use Rattle.cpu.specs.Step.{step_of}

-- the same signals with other directions
abbrev pub directed : List ℕ → Signals → Signals
directed directions s =
    record { input = record { pins = s.input.pins; directions = directions; release = s.input.release }; pulse = s.pulse }

-- with other directions, in range or out of it as the first are, a step and a run are the same
pub record DirectionLaws (chip : Chip) (rom : List ℕ) (s : Signals) (directions : List ℕ) : Type 0 where
  pub step : five_nibbles directions ≡ five_nibbles s.input.directions → (m : Machine)
      → step_of chip rom (directed directions s) m ≡ step_of chip rom s m
  pub run : five_nibbles directions ≡ five_nibbles s.input.directions → (budget : ℕ) (m : Machine)
      → run_of chip rom (directed directions s) budget m ≡ run_of chip rom s budget m
