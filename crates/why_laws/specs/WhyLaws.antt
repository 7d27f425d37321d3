-- What `why` tells of a cell, in the words of document 02, E7: "the last step that wrote that cell", "NEVER WRITTEN exactly when no step
-- did", and what the memory then holds. Proved in proofs/Whys.antt.
-- Assumes nothing.
use Rattle.std.specs.Prelude.{◌≡◌, true, false, List, ◌++◌, ◌↔◌, ℕ, suc, ◌<◌, ◌≤◌, get_or}
use Rattle.machine.specs.Parts.{cells_of, reset_machine}
use Rattle.cpu.specs.Reply.{done}
use Rattle.transcript.specs.Text.{newline}
use Rattle.transcript.specs.Why.{never_text, machine_at, step_at, is_reached, wrote, last_writer, answer_text}

module _ (rom inputs : List ℕ) (cell : ℕ) where
  -- what stands in the cell before the record with an index
  abbrev pub held_at : ℕ → ℕ
  held_at k = get_or (cells_of (machine_at rom inputs k)) cell 0

  -- among the first so many records it is the last whose step wrote the cell
  pub record IsLast (count k : ℕ) : Type 0 where
    pub among : k < count
    pub did : wrote rom inputs cell k ≡ true
    pub later : (j : ℕ) → k < j → j < count → wrote rom inputs cell j ≡ false

  -- none of them did
  abbrev pub NoneDid : ℕ → Type 0
  NoneDid count = (k : ℕ) → k < count → wrote rom inputs cell k ≡ false

  pub record WhyLaws (count : ℕ) : Type 0 where
    -- a record is named exactly when it is the last, and NEVER WRITTEN is printed exactly when none did
    pub last : (k : ℕ) → (last_writer rom inputs cell count ≡ suc k) ↔ IsLast count k
    pub never : (answer_text rom inputs cell (last_writer rom inputs cell count) ≡ never_text ++ newline) ↔ NoneDid count
    -- what is named was run, before a refusal, and completed
    pub ran : (k : ℕ) → wrote rom inputs cell k ≡ true → (is_reached rom inputs k ≡ true) × ((step_at rom inputs k).reply ≡ done)
    -- from that step up to the last record run the cell has that nibble
    pub kept : (k : ℕ) → IsLast count k → (j : ℕ) → k < j → j ≤ count → held_at j ≡ get_or (cells_of (step_at rom inputs k).machine) cell 0
    -- a cell that no step wrote is as reset left it
    pub untouched : NoneDid count → (j : ℕ) → j ≤ count → held_at j ≡ get_or (cells_of reset_machine) cell 0
