-- What `station` prints for a file: document 01, "Station file".
-- Assumes nothing.
use Rattle.std.specs.Prelude.{cond, List, [], ◌∷◌, ◌++◌, ℕ, zero, suc, ◌/◌, eqb, get_or, length, take, drop}
use Rattle.text.specs.Hex.{hex_digits_of}
use Rattle.memory.specs.Chip.{upd17132}
use Rattle.memory.specs.Names as names
use Rattle.cpu.specs.Cost.{none, plus, step_cost}
use Rattle.cpu.specs.Reply.{Reply, done, in_standby, refused}
use Rattle.machine.specs.Parts.{cells_of, reset_machine}
use Rattle.cpu.specs.Step.{step_of}
use Rattle.cpu.specs.declared.Count.{Count}
use Rattle.machine.specs.Signals.{signals}
use Rattle.machine.specs.declared.Input.{Input}
use Rattle.machine.specs.declared.Machine.{Machine}
use Rattle.verifier.specs.Verdict as verdict
use Rattle.station_file.specs.Reading as reading
use Rattle.station_file.specs.Forms.{load_of}
use Rattle.station_file.specs.Station.{Station, record_bytes}
use Rattle.transcript.specs.Text.{space, newline, file_text, sheet_text, none_text, pass_text, fail_text, end_text, dashes, hex1, hex3, decimal}

-- the input records of so many times eleven bytes: five pins, five directions, release
abbrev pub inputs_of : ℕ → List ℕ → List Input
inputs_of zero xs = []
inputs_of (suc n) xs =
    record { pins = take 5 xs; directions = take 5 (drop 5 xs); release = get_or xs 10 0 }
    ∷ inputs_of n (drop record_bytes xs)

-- "first SHEET NONE, SHEET PASS, or SHEET FAIL with word (three hex digits) and rule"; a sheet that was read has two
-- bytes for each word of the ROM, so the check has no refusal for it
abbrev pub verdict_text : verdict.CheckAnswer → List ℕ
verdict_text verdict.pass = pass_text
verdict_text (verdict.fail word rule) = fail_text ++ hex3 word ++ (space ∷ []) ++ decimal rule
verdict_text (verdict.refused n) = none_text

unfoldable pub sheet_line : Station → List ℕ
sheet_line s =
    sheet_text ++ cond (eqb (length s.sheet) 0) none_text (verdict_text (verdict.verify_of upd17132 s.rom s.sheet)) ++ newline

-- "record number in decimal, PC before (three hex digits), the word there (four, or ---- when it stays standing), PC after,
-- open levels, PSW (one hex digit)"
abbrev pub line_of : ℕ → List ℕ → Machine → Machine → List ℕ
line_of number word before after =
    decimal number ++ (space ∷ hex3 before.control.pc) ++ (space ∷ word) ++ (space ∷ hex3 after.control.pc)
    ++ (space ∷ hex1 after.control.levels) ++ (space ∷ hex1 (get_or (cells_of after) names.PSW 0)) ++ newline

-- how far the records have come: the machine, the steps completed with their cycles, and the refusal or 0
pub record Progress : Type 0 where
  pub machine : Machine
  pub count : Count
  pub refusal : ℕ

-- what a record comes to, or several in turn, and what is printed for it
pub record Outcome : Type 0 where
  pub progress : Progress
  pub text : List ℕ

-- one after another
abbrev pub followed : Outcome → Outcome → Outcome
followed a b = record { progress = b.progress; text = a.text ++ b.text }

module _ (rom : List ℕ) where
  -- a step that is completed or stays standing prints its line, a refusal none
  abbrev pub replied : ℕ → Progress → Count → Reply → Machine → Outcome
  replied number p count done after = record {
    progress = record { machine = after; count = count; refusal = 0 };
    text = line_of number (hex_digits_of (get_or rom p.machine.control.pc 0)) p.machine after;
  }
  replied number p count in_standby after = record {
    progress = record { machine = after; count = count; refusal = 0 };
    text = line_of number dashes p.machine after;
  }
  replied number p count (refused n) after = record { progress = record { machine = after; count = count; refusal = n }; text = [] }

  -- one record; after a refusal there is none. The pulse is "0 with a station file" (document 02, E4)
  unfoldable pub record_of : ℕ → Input → Progress → Outcome
  record_of number i p =
      cond (eqb p.refusal 0)
      (let s = step_of upd17132 rom (signals i 0) p.machine in
      replied number p (plus p.count (step_cost upd17132 rom (signals i 0) p.machine)) s.reply s.machine)
      (record { progress = p; text = [] })

  -- the records in turn, numbered from 1
  abbrev pub records_of : ℕ → List Input → Progress → Outcome
  records_of number [] p = record { progress = p; text = [] }
  records_of number (i ∷ is) p =
      let first = record_of number i p in
      followed first (records_of (suc number) is first.progress)

abbrev pub begun : Progress
begun = record { machine = reset_machine; count = none; refusal = 0 }

-- "Last END, completed steps, refusal or 0"; document 02, E3, "END gets the cycles between steps and refusal"
abbrev pub end_line : Count → ℕ → List ℕ
end_line c refusal = end_text ++ decimal c.steps ++ (space ∷ decimal c.cycles) ++ (space ∷ decimal refusal) ++ newline

unfoldable pub station_text : Station → List ℕ
station_text s =
    let all = records_of s.rom 1 (inputs_of (length s.inputs / record_bytes) s.inputs) begun in
    sheet_line s ++ all.text ++ end_line all.progress.count all.progress.refusal

-- "Bad file: the one line FILE and the refusal"
abbrev pub read_text : reading.Reading Station → List ℕ
read_text (reading.got s rest) = station_text s
read_text (reading.refused n) = file_text ++ decimal n ++ newline

unfoldable pub transcript_of : List ℕ → List ℕ
transcript_of file = read_text (load_of file)
