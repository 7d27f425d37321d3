-- What an instruction makes of the record: control first, then refusals 8 and 31, then the writes and settings. A refusal leaves the
-- record as it came.
-- Assumes nothing.
use Rattle.std.specs.Prelude.{Bool, ◌&&◌, cond, List, ℕ, eqb, leb, get_or, length}
use Rattle.isa.specs.declared.Instruction.{Instruction}
use Rattle.memory.specs.Chip.{Chip}
use Rattle.memory.specs.Registers.{ar_of}
use Rattle.memory.specs.Write.{writes_applied}
use Rattle.machine.specs.Parts.{cells_of, machine_of}
use Rattle.machine.specs.Signals.{Signals}
use Rattle.machine.specs.declared.Machine.{Machine}
use Rattle.control.specs.Control.{Transfer, control_of, top_of}
use Rattle.control.specs.Flow.{flow_of, reads_table}
use Rattle.control.specs.declared.Flow.{Flow}
use Rattle.operations.specs.Data.{Data, Sources, data_at}
use Rattle.operations.specs.Operands.{addresses_of, lacks_at}
use Rattle.operations.specs.Settings.{settings_of}
use Rattle.operations.specs.Writes.{writes_of, holds_of}
use Rattle.peripherals.specs.declared.Peripherals.{Peripherals}
use Rattle.cpu.specs.Reply.{Step, completed_step, refused_step}

-- the input record's directions are not read
abbrev pub data_of : Machine → Signals → Data
data_of m s = data_at (cells_of m) s.input.pins m.peripherals.registers

abbrev pub sources_of : List ℕ → Machine → Sources
sources_of rom m = record { top = top_of m.control; word = get_or rom (ar_of (cells_of m)) 0; counter = m.peripherals.counter }

-- refusal 8: MOVT with AR at or past the number of ROM words
unfoldable pub past_table : List ℕ → ℕ → Flow → Bool
past_table rom ar f = reads_table f && leb (length rom) ar

module _ (chip : Chip) (rom : List ℕ) (signals : Signals) where
  -- the cells after an instruction's writes
  unfoldable pub written_of : Instruction → Machine → List ℕ
  written_of i m = writes_applied chip (cells_of m) (writes_of chip (data_of m signals) i (sources_of rom m))

  -- the peripherals after its settings
  abbrev pub set_of : Instruction → Machine → Peripherals
  set_of i m = settings_of (cells_of m) m.peripherals i

  -- where control goes: refusals 4 and 30 by the instruction alone, then 5, 6 and 7
  unfoldable pub transfer_by : Instruction → Machine → Transfer
  transfer_by i m = control_of chip (flow_of i) (holds_of chip (data_of m signals) i) (ar_of (cells_of m)) m.control

  -- refusal 31: a missing cell read or written
  unfoldable pub lacks_of : Instruction → Machine → Bool
  lacks_of i m = lacks_at chip (addresses_of chip (data_of m signals) i)

  -- what is left once control has gone on or been refused: refusals 8 and 31, then the writes and settings
  abbrev pub settle_of : Instruction → Machine → Transfer → Step
  settle_of i m t =
      cond (eqb t.refusal 0)
      (cond (past_table rom (ar_of (cells_of m)) (flow_of i))
      (refused_step 8 m)
      (cond (lacks_of i m) (refused_step 31 m) (completed_step (machine_of (written_of i m) (set_of i m) t.control))))
      (refused_step t.refusal m)

  unfoldable pub execute_of : Instruction → Machine → Step
  execute_of i m = settle_of i m (transfer_by i m)
