-- What `why` prints for a request: document 02, E7, "It prints the last step that wrote that cell". The records are run as `station`
-- runs them.
-- Assumes nothing.
use Rattle.std.specs.Prelude.{Bool, true, false, not, ◌&&◌, cond, List, [], ◌∷◌, ◌++◌, ℕ, zero, suc, ◌+◌, ◌*◌, ◌/◌, eqb, ltb, get_or, length, drop}
use Rattle.text.specs.Hex.{hex_digits_of}
use Rattle.isa.specs.Answers.{Decoding, is, refused as refused_word}
use Rattle.isa.specs.Decode.{decode_of}
use Rattle.memory.specs.Chip.{upd17132}
use Rattle.memory.specs.Write.{touches}
use Rattle.machine.specs.Parts.{cells_of, is_marked}
use Rattle.machine.specs.Signals.{Signals, signals}
use Rattle.machine.specs.declared.Machine.{Machine}
use Rattle.operations.specs.Writes.{writes_of}
use Rattle.cpu.specs.Execute.{data_of, sources_of}
use Rattle.cpu.specs.Reply.{Reply, done, in_standby, refused, Step}
use Rattle.cpu.specs.Step.{step_of}
use Rattle.station_file.specs.Reading as reading
use Rattle.station_file.specs.Forms.{load_of}
use Rattle.station_file.specs.Station.{Station, record_bytes}
use Rattle.transcript.specs.Text.{space, newline, file_text, hex1, hex3, decimal}
use Rattle.transcript.specs.Printing.{input_at, up_to}

-- "NEVER WRITTEN"
abbrev pub never_text : List ℕ
never_text = 0x4E ∷ 0x45 ∷ 0x56 ∷ 0x45 ∷ 0x52 ∷ space ∷ 0x57 ∷ 0x52 ∷ 0x49 ∷ 0x54 ∷ 0x54 ∷ 0x45 ∷ 0x4E ∷ []

-- "as record number, PC, word and the nibble then stored, written as `station` does"
abbrev pub after_number : ℕ → ℕ → ℕ → List ℕ
after_number pc word nibble = (space ∷ hex3 pc) ++ (space ∷ hex_digits_of word) ++ (space ∷ hex1 nibble) ++ newline

abbrev pub written_line : ℕ → ℕ → ℕ → ℕ → List ℕ
written_line number pc word nibble = decimal number ++ after_number pc word nibble

-- a completed step; one that answers "standing" or is refused writes nothing
abbrev pub is_done : Reply → Bool
is_done done = true
is_done in_standby = false
is_done (refused n) = false

module _ (rom : List ℕ) where
  -- whether the instruction that a word is writes a cell: "A write of an equal value counts", so its addresses decide
  abbrev pub written_by : Signals → Machine → ℕ → Decoding → Bool
  written_by s m cell (is i) = touches (writes_of upd17132 (data_of m s) i (sources_of rom m)) cell
  written_by s m cell (refused_word n) = false

  -- whether a step writes a cell: it is completed, and its word not skipped
  abbrev pub step_writes : Signals → Machine → ℕ → Bool
  step_writes s m cell =
      is_done (step_of upd17132 rom s m).reply
      && (not (is_marked m.control.skip) && written_by s m cell (decode_of (get_or rom m.control.pc 0)))

  module _ (inputs : List ℕ) where
    -- the machine before the record with an index, and its step
    abbrev pub machine_at : ℕ → Machine
    machine_at k = (up_to rom inputs k).progress.machine

    abbrev pub signals_of : ℕ → Signals
    signals_of k = signals (input_at k inputs) 0

    abbrev pub step_at : ℕ → Step
    step_at k = step_of upd17132 rom (signals_of k) (machine_at k)

    -- a record is run up to the first that is refused
    abbrev pub is_reached : ℕ → Bool
    is_reached k = eqb (up_to rom inputs k).progress.refusal 0

    -- the step of a record wrote the cell
    unfoldable pub wrote : ℕ → ℕ → Bool
    wrote cell k = is_reached k && step_writes (signals_of k) (machine_at k) cell

    -- the last of so many records whose step wrote the cell, by its number, or 0
    unfoldable pub last_writer : ℕ → ℕ → ℕ
    last_writer cell zero = 0
    last_writer cell (suc k) = cond (wrote cell k) (suc k) (last_writer cell k)

    -- the line of the record with an index
    abbrev pub writer_line : ℕ → ℕ → List ℕ
    writer_line cell k =
        let pc = (machine_at k).control.pc in
        written_line (suc k) pc (get_or rom pc 0) (get_or (cells_of (step_at k).machine) cell 0)

    -- "NEVER WRITTEN exactly when no step did"
    abbrev pub answer_text : ℕ → ℕ → List ℕ
    answer_text cell zero = never_text ++ newline
    answer_text cell (suc k) = writer_line cell k

-- document 01, "Bad file: the one line FILE and the refusal"
abbrev pub refusal_line : ℕ → List ℕ
refusal_line n = file_text ++ decimal n ++ newline

-- what is told of a file: something of its station, or that line
abbrev pub told_of : (Station → List ℕ) → reading.Reading Station → List ℕ
told_of good (reading.got s rest) = good s
told_of good (reading.refused n) = refusal_line n

-- "Refusals, after the file's: 32, cell above 7FH; 33, count above the number of records"
abbrev pub explanation : ℕ → ℕ → Station → List ℕ
explanation cell count s =
    cond (ltb 127 cell)
    (refusal_line 32)
    (cond (ltb (length s.inputs / record_bytes) count)
    (refusal_line 33)
    (answer_text s.rom s.inputs cell (last_writer s.rom s.inputs cell count)))

-- the four bytes after the first, high byte first
abbrev pub count_in : List ℕ → ℕ
count_in request = get_or request 1 0 * 16777216 + get_or request 2 0 * 65536 + get_or request 3 0 * 256 + get_or request 4 0

-- "a data cell (one byte), a count of records to run (four, high byte first) and a station file"; without the five bytes the request
-- ends too early, refusal 21
unfoldable pub why_of : List ℕ → List ℕ
why_of request =
    cond (ltb (length request) 5) (refusal_line 21) (told_of (explanation (get_or request 0 0) (count_in request)) (load_of (drop 5 request)))
