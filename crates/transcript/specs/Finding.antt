-- What the code has found and refused: what ties the private functions to the definitions.
-- Assumes nothing.
use Rattle.std.specs.Prelude.{Bool, not, ◌&&◌, List, ◌++◌, ℕ, eqb, get_or, Option, Some, None, Result, Ok, Err}
use Rattle.isa.specs.Decode.{decode_of}
use Rattle.machine.specs.Parts.{cells_of, is_marked}
use Rattle.machine.specs.Signals.{signals}
use Rattle.station_file.specs.Answers.{file_number}
use Rattle.transcript.specs.declared.WhyRefusal.{WhyRefusal}
use Rattle.transcript.specs.declared.WhyRefusal.TheVariants.{File, Cell, Count}
use Rattle.transcript.specs.declared.Writer as code
use Rattle.transcript.specs.declared.explain.Turn.{Turn}
use Rattle.transcript.specs.Text.{newline}
use Rattle.transcript.specs.Why.{never_text, written_by, written_line, refusal_line}

-- the text of the step that the code has found, or of none
abbrev pub found_text : Option code.Writer → List ℕ
found_text None = never_text ++ newline
found_text (Some w) = written_line w.number w.pc w.word w.nibble

-- of a record that was run: whether its step wrote a cell, and what is then told of it
abbrev pub wrote_by : Turn → ℕ → Bool
wrote_by t cell =
    not (eqb t.after.count.steps t.before.count.steps)
    && (not (is_marked t.before.machine.control.skip)
    && written_by t.rom.now (signals t.input 0) t.before.machine cell (decode_of (get_or t.rom.now t.before.machine.control.pc 0)))

abbrev pub told_by : Turn → ℕ → code.Writer
told_by t cell =
    let pc = t.before.machine.control.pc in
    record { number = t.number; pc = pc; word = get_or t.rom.now pc 0; nibble = get_or (cells_of t.after.machine) cell 0 }

-- the refusals of a request: the file's, and two more
abbrev pub why_number : WhyRefusal → ℕ
why_number (File f) = file_number f
why_number Cell = 32
why_number Count = 33

-- what is printed for a request
abbrev pub told_text : Result (Option code.Writer) WhyRefusal → List ℕ
told_text (Ok found) = found_text found
told_text (Err refusal) = refusal_line (why_number refusal)
