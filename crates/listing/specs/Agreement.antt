-- The list and the instruction set agree on every word. Proved in proofs/Agreement.antt.
-- Assumes nothing.
use Rattle.std.specs.Prelude.{◌≡◌, ℕ, ◌<◌, true}
use Rattle.isa.specs.Answers.{is, refused}
use Rattle.isa.specs.Decode.{decode_of}
use Rattle.isa.specs.declared.Instruction.{Instruction}
use Rattle.listing.specs.declared.table.Fields.{Fields}
use Rattle.listing.specs.Rows.{listed, refused_word, decoded_row_of, unused_zero, encoded, encoded_row_of}
use Rattle.listing.specs.Table.{row_at}

-- a row and its operands make an instruction
pub record Makes (row : ℕ) (o : Fields) (i : Instruction) : Type 0 where
  pub below : row < 47
  pub unused : unused_zero (row_at row).format o ≡ true
  pub instruction : (row_at row).instruction o ≡ i

-- a word stands in a row that makes its instruction, and nothing else makes it
pub record OneRow (w : ℕ) (i : Instruction) : Type 0 where
  pub row : ℕ
  pub operands : Fields
  pub decoded : decoded_row_of w ≡ listed row operands
  pub makes : Makes row operands i
  pub only : (k : ℕ) (o : Fields) → Makes k o i → decoded_row_of w ≡ listed k o

-- a word that is an instruction stands in its row
abbrev pub One : Type 0
One = (w : ℕ) (i : Instruction) → w < 65536 → decode_of w ≡ is i → OneRow w i

-- one that is none stands in no row, and is refused as isa refuses it
abbrev pub None : Type 0
None = (w n : ℕ) → w < 65536 → decode_of w ≡ refused n → decoded_row_of w ≡ refused_word n

-- what a word is listed as has this word
abbrev pub Again : Type 0
Again = (w row : ℕ) (o : Fields) → w < 65536 → decoded_row_of w ≡ listed row o → encoded_row_of row o ≡ encoded w

-- and the word of a row and its operands is listed as these
abbrev pub Back : Type 0
Back = (w row : ℕ) (o : Fields) → encoded_row_of row o ≡ encoded w → decoded_row_of w ≡ listed row o
