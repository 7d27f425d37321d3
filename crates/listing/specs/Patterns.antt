-- What the functions on a row's machine code answer.
-- Assumes nothing.
use Rattle.std.specs.Prelude.{ℕ, ◌+◌, ◌*◌, ◌/◌, ◌%◌, Option, None, Some, Result, Ok, Err}
use Rattle.isa.specs.Encode.{word_of}
use Rattle.listing.specs.declared.DecodedRow.{DecodedRow}
use Rattle.listing.specs.declared.EncodedRow.{EncodedRow}
use Rattle.listing.specs.declared.encoder.NoWord.{NoWord}
use Rattle.listing.specs.declared.encoder.NoWord.TheVariants.{NoRow, TooLarge}
use Rattle.listing.specs.declared.table.Fields.{Fields}
use Rattle.listing.specs.declared.table.Format.{Format}
use Rattle.listing.specs.declared.table.Format.TheVariants.{Plain, Rm, Mn, Nibble, Split, Target}
use Rattle.listing.specs.declared.table.Pattern.{Pattern}
use Rattle.listing.specs.Table.{Row, fields, fields_in}
use Rattle.listing.specs.Rows.{listed, refused_word, encoded, refused_row}

-- the word of a row whose operands are 0, and the format
abbrev pub pattern_of : Row → Pattern
pattern_of r = (word_of (r.instruction (fields 0 0 0)), r.format)

-- the operands' part of a word
abbrev pub placed_by : Format → Fields → ℕ
placed_by Plain o = 0
placed_by Rm o = o.second * 16 + o.first
placed_by Mn o = o.first * 16 + o.second
placed_by Nibble o = o.first
placed_by Split o = o.first / 16 * 256 + o.first % 16
placed_by Target o = o.addr

-- cut to 16 bits
abbrev pub join_of : Pattern → Fields → ℕ
join_of p o = (p.0 + placed_by p.1 o) % 65536

abbrev pub fields_of : Pattern → ℕ → Fields
fields_of p w = fields_in p.1 w

-- what the search for a word's row finds, as C reads it
abbrev pub decoded_row : Option (ℕ × Fields) → DecodedRow
decoded_row (Some f) = listed f.0 f.1
decoded_row None = refused_word 3

-- the numbers for a row and operands that have no word
abbrev pub number_of : NoWord → ℕ
number_of NoRow = 1
number_of TooLarge = 10

abbrev pub encoded_row : Result ℕ NoWord → EncodedRow
encoded_row (Ok w) = encoded w
encoded_row (Err e) = refused_row (number_of e)
