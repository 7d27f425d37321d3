-- A step, in the phases of document 01: refusals in the order of its table, and a refusal leaves the record as it came.
-- Assumes nothing.
use Rattle.std.specs.Prelude.{Bool, false, ◌&&◌, cond, List, ℕ, eqb, leb, get_or, length}
use Rattle.isa.specs.Answers.{Decoding, is, refused as refused_word}
use Rattle.isa.specs.Decode.{decode_of}
use Rattle.memory.specs.Chip.{Chip}
use Rattle.machine.specs.Parts.{is_marked, with_control, with_peripherals, HALT}
use Rattle.machine.specs.Ranges.{all_in_range}
use Rattle.machine.specs.Signals.{Signals}
use Rattle.machine.specs.declared.Machine.{Machine}
use Rattle.control.specs.Control.{with_skip, with_standby, onwards}
use Rattle.peripherals.specs.Timer.{tick_of}
use Rattle.cpu.specs.Cycles.{next_cycles}
use Rattle.cpu.specs.Execute.{execute_of}
use Rattle.cpu.specs.Reply.{Reply, done, in_standby, refused, Step, completed_step, standing_step, refused_step}

-- the mark that document 01 calls standing
abbrev pub is_standing : Machine → Bool
is_standing m = is_marked m.control.standby

-- with release 1 a standing machine loses that mark
abbrev pub woken : Machine → Machine
woken m = with_control (with_standby 0 m.control) m

-- so many cycles of the timer, and the call's pulse bit
abbrev pub ticked_by : ℕ → ℕ → Machine → Machine
ticked_by cycles pulse m = with_peripherals (tick_of m.peripherals cycles pulse) m

-- document 02, E4: "HALT's standing steps .. move the timer by one cycle but no reported count; STOP's change nothing"
abbrev pub stood_by : ℕ → Machine → Machine
stood_by pulse m = cond (eqb m.control.standby HALT) (ticked_by 1 pulse m) m

-- a refusal leaves the record as it came, the mark included
abbrev pub unless_refused : Machine → Machine → Reply → Step
unless_refused m after done = completed_step after
unless_refused m after in_standby = standing_step after
unless_refused m after (refused n) = refused_step n m

module _ (chip : Chip) (rom : List ℕ) (signals : Signals) where
  -- refusal 3: the word is no instruction
  abbrev pub decoded_of : Machine → Decoding → Step
  decoded_of m (is i) = execute_of chip rom signals i m
  decoded_of m (refused_word n) = refused_step n m

  -- "the next step takes the word at PC as NOP, undecoded, and clears" the mark
  abbrev pub pass_over : Machine → Step
  pass_over m = completed_step (with_control (with_skip false (onwards chip m.control)) m)

  -- refusal 2: PC at or past the number of ROM words
  unfoldable pub fetch_of : Machine → Step
  fetch_of m =
      cond (leb (length rom) m.control.pc)
      (refused_step 2 m)
      (cond (is_marked m.control.skip) (pass_over m) (decoded_of m (decode_of (get_or rom m.control.pc 0))))

  -- a standing step with release 0 answers "standing"
  abbrev pub waits : Machine → Bool
  waits m = is_standing m && eqb signals.input.release 0

  -- with release 1 the mark goes, and the step is as any other; elsewhere release does not count. "A step's pulses come after its
  -- writes": the timer's cycles are the last phase
  unfoldable pub advance_of : Machine → Step
  advance_of m =
      cond (waits m)
      (standing_step (stood_by signals.pulse m))
      (let s = fetch_of (woken m) in unless_refused m (ticked_by (next_cycles rom m) signals.pulse s.machine) s.reply)

  -- refusal 1 first
  unfoldable pub step_of : Machine → Step
  step_of m = cond (all_in_range chip rom m signals) (advance_of m) (refused_step 1 m)
