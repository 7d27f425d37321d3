-- The instruction cycles of a step: document 02, E3.
-- Assumes nothing.
use Rattle.std.specs.Prelude.{not, ◌&&◌, cond, List, ℕ, get_or}
use Rattle.machine.specs.Parts.{is_marked}
use Rattle.machine.specs.declared.Machine.{Machine}
use Rattle.control.specs.Flow.{reads_table, word_flow}

-- "MOVT two, every other step one, a skipped MOVT too": a word that the skip mark passes over is a NOP, which takes one
abbrev pub cycles_of : ℕ → ℕ → ℕ
cycles_of word skip = cond (not (is_marked skip) && reads_table (word_flow word)) 2 1

-- the cycles of a machine's next step, where it is completed
abbrev pub next_cycles : List ℕ → Machine → ℕ
next_cycles rom m = cycles_of (get_or rom m.control.pc 0) m.control.skip
