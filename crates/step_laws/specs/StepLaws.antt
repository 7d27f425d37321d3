-- What a step leaves as it was. Proved in proofs/Steps.antt.
-- Assumes nothing.
use Rattle.std.specs.Prelude.{◌≡◌, true, false, List, ℕ, get_or}
use Rattle.isa.specs.Answers.{is}
use Rattle.isa.specs.Decode.{decode_of}
use Rattle.isa.specs.declared.Instruction.{Instruction}
use Rattle.memory.specs.Chip.{Chip}
use Rattle.memory.specs.Write.{Write, touches}
use Rattle.machine.specs.Parts.{HALT, STOP, is_marked, cells_of}
use Rattle.machine.specs.Signals.{Signals}
use Rattle.machine.specs.declared.Machine.{Machine}
use Rattle.operations.specs.Writes.{writes_of}
use Rattle.operations.specs.Settings.{settings_of}
use Rattle.peripherals.specs.Timer.{tick_of}
use Rattle.cpu.specs.Cycles.{next_cycles}
use Rattle.cpu.specs.Execute.{data_of, sources_of}
use Rattle.cpu.specs.Reply.{done, in_standby, refused}
use Rattle.cpu.specs.Step.{step_of, ticked_by}

module _ (chip : Chip) (rom : List ℕ) (signals : Signals) where
  -- what an instruction writes on a machine
  abbrev pub writes_by : Instruction → Machine → List Write
  writes_by i m = writes_of chip (data_of m signals) i (sources_of rom m)

  pub record StepLaws (m : Machine) : Type 0 where
    -- "Machine refusals .. leave the record as it came"
    pub kept : (n : ℕ) → (step_of chip rom signals m).reply ≡ refused n → (step_of chip rom signals m).machine ≡ m
    -- document 02, E4: of the standing steps "STOP's change nothing", and HALT's "move the timer by one cycle", and nothing else
    pub stopped : (step_of chip rom signals m).reply ≡ in_standby → m.control.standby ≡ STOP → (step_of chip rom signals m).machine ≡ m
    pub halted : (step_of chip rom signals m).reply ≡ in_standby → m.control.standby ≡ HALT
        → (step_of chip rom signals m).machine ≡ ticked_by 1 signals.pulse m
    -- "the next step takes the word at PC as NOP": with the skip mark set no cell changes
    pub skipped : is_marked m.control.skip ≡ true → cells_of (step_of chip rom signals m).machine ≡ cells_of m
    -- whatever it answers, a step changes no cell that the instruction at PC does not write
    pub frame : (i : Instruction) → decode_of (get_or rom m.control.pc 0) ≡ is i
        → (k : ℕ) → touches (writes_by i m) k ≡ false → get_or (cells_of (step_of chip rom signals m).machine) k 0 ≡ get_or (cells_of m) k 0
    -- the peripherals after a completed step: what its instruction sets, and then the timer's cycles; a skipped word sets nothing
    pub timed : (step_of chip rom signals m).reply ≡ done → is_marked m.control.skip ≡ true
        → (step_of chip rom signals m).machine.peripherals ≡ tick_of m.peripherals 1 signals.pulse
    pub set : (i : Instruction) → decode_of (get_or rom m.control.pc 0) ≡ is i
        → (step_of chip rom signals m).reply ≡ done → is_marked m.control.skip ≡ false
        → (step_of chip rom signals m).machine.peripherals
        ≡ tick_of (settings_of (cells_of m) m.peripherals i) (next_cycles rom m) signals.pulse
