-- The row in which a word stands, and the word of a row with its operands.
-- Assumes nothing.
use Rattle.std.specs.Prelude.{ℕ, Bool, cond, not, ◌&&◌, ◌==◌, nat_lt}
use Rattle.laws.specs.First.{first_false}
use Rattle.isa.specs.Answers.{Encoding}
use Rattle.isa.specs.Encode.{word_of, encode_of}
use Rattle.listing.specs.declared.DecodedRow.{DecodedRow}
use Rattle.listing.specs.declared.EncodedRow.{EncodedRow}
use Rattle.listing.specs.declared.table.Fields.{Fields}
use Rattle.listing.specs.declared.table.Format.{Format}
use Rattle.listing.specs.declared.table.Format.TheVariants.{Plain, Rm, Mn, Nibble, Split, Target}
use Rattle.listing.specs.Table.{Row, row_at, fields_in}

abbrev pub listed : ℕ → Fields → DecodedRow
listed row o = record { number = 0; row = row; first = o.first; second = o.second; addr = o.addr }

abbrev pub refused_word : ℕ → DecodedRow
refused_word n = record { number = n; row = 0; first = 0; second = 0; addr = 0 }

-- a word stands in a row whose instruction, with what stands in the word's fields, has this word
abbrev pub stands : ℕ → Row → Bool
stands w r = word_of (r.instruction (fields_in r.format w)) == w

-- the first such row, 47 for none
unfoldable pub row_in : ℕ → ℕ
row_in w = first_false (λ (k : ℕ). not (stands w (row_at k))) 47

-- a word that stands in none is no instruction, refusal 3
unfoldable pub decoded_row_of : ℕ → DecodedRow
decoded_row_of w = cond (nat_lt (row_in w) 47) (listed (row_in w) (fields_in (row_at (row_in w)).format w)) (refused_word 3)

-- an operand that the row does not have is 0
abbrev pub unused_zero : Format → Fields → Bool
unused_zero Plain o = o.first == 0 && (o.second == 0 && o.addr == 0)
unused_zero Rm o = o.addr == 0
unused_zero Mn o = o.addr == 0
unused_zero Nibble o = o.second == 0 && o.addr == 0
unused_zero Split o = o.second == 0 && o.addr == 0
unused_zero Target o = o.first == 0 && o.second == 0

abbrev pub encoded : ℕ → EncodedRow
encoded w = record { number = 0; word = w }

abbrev pub refused_row : ℕ → EncodedRow
refused_row n = record { number = n; word = 0 }

abbrev pub of_encoding : Encoding → EncodedRow
of_encoding e = record { number = e.refusal; word = e.word }

-- a row past the list is out of range, refusal 1; what the row has no field for is too large for it, refusal 10
unfoldable pub encoded_row_of : ℕ → Fields → EncodedRow
encoded_row_of row o =
    cond (nat_lt row 47)
    (cond (unused_zero (row_at row).format o) (of_encoding (encode_of ((row_at row).instruction o))) (refused_row 10))
    (refused_row 1)
