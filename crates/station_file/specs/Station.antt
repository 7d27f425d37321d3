-- The station file: document 01, "Station file" and the file refusals, and document 02, E5, "Station form 2".
-- Assumes nothing.
use Rattle.std.specs.Prelude.{Bool, ◌&&◌, ◌||◌, cond, List, [], ◌∷◌, ℕ, ◌+◌, ◌*◌, ◌%◌, eqb, ltb, leb, length, get_or}
use Rattle.sheet.specs.Entry.{single, proper}
use Rattle.sheet.specs.declared.Entry.{Entry}
use Rattle.station_file.specs.Reading.{Reading, got, refused, and_then, tested, byte, number, fields}

-- what differs between the forms of the file
pub record Form : Type 0 where
  -- the number in its first two bytes
  pub number : ℕ
  -- bytes of a sheet entry: a level, or the lowest and the highest
  pub entry_bytes : ℕ
  -- bytes of the count of inputs, and the most inputs
  pub count_bytes : ℕ
  pub most_inputs : ℕ

abbrev pub form1 : Form
form1 = record { number = 1; entry_bytes = 1; count_bytes = 2; most_inputs = 4095 }

abbrev pub form2 : Form
form2 = record { number = 2; entry_bytes = 2; count_bytes = 2; most_inputs = 4095 }

-- the ROM's words, the bytes of an entry for each word or none at all, and the bytes of the input records
pub record Station : Type 0 where
  pub rom : List ℕ
  pub sheet : List ℕ
  pub inputs : List ℕ

-- "five pins, five directions, each 0 to 15; release 0 or 1"
abbrev pub record_bytes : ℕ
record_bytes = 11

abbrev pub input_byte : ℕ → ℕ → Bool
input_byte k b = cond (eqb (k % record_bytes) 10) (ltb b 2) (ltb b 16)

-- "two-byte count 1 to 1,024, then words"
abbrev pub rom_count : ℕ → Bool
rom_count n = ltb 0 n && leb n 1024

abbrev pub word_field : ℕ → List ℕ → Reading ℕ
word_field k xs = number 2 xs

unfoldable pub rom_section : List ℕ → Reading (List ℕ)
rom_section xs = and_then (tested rom_count 22 (number 2 xs)) (λ (n : ℕ) (rest : List ℕ). fields word_field 0 n rest)

-- "two-byte count, 0 or the ROM's count, then a byte each (0 to 5 or 15)"; in form 2 "two bytes per sheet entry"
abbrev pub sheet_count : ℕ → ℕ → Bool
sheet_count words n = eqb n 0 || eqb n words

-- a level of the file's form, whatever the chip: document 02, "Station files stay those of the 17132"
abbrev pub most_level : ℕ
most_level = 5

-- the entry that a byte of a sheet ends, by its index and the byte before it: the first byte of an entry alone, or with it a second
abbrev pub entry_to : Form → ℕ → ℕ → ℕ → Entry
entry_to form before k b = cond (eqb (k % form.entry_bytes) 0) (single b) (record { lowest = before; highest = b })

abbrev pub entry_byte : Form → List ℕ → ℕ → ℕ → Bool
entry_byte form sheet k b = proper most_level (entry_to form (get_or (0 ∷ sheet) k 0) k b)

abbrev pub entry_field : Form → List ℕ → ℕ → List ℕ → Reading ℕ
entry_field form sheet k xs = tested (entry_byte form sheet k) 23 (byte xs)

unfoldable pub sheet_section : Form → ℕ → List ℕ → Reading (List ℕ)
sheet_section form words xs =
    and_then (tested (sheet_count words) 22 (number 2 xs)) (λ (n : ℕ) (rest : List ℕ). fields (entry_field form rest) 0 (form.entry_bytes * n) rest)

-- "two-byte count 0 to 4,095, then eleven bytes each"
abbrev pub input_field : ℕ → List ℕ → Reading ℕ
input_field k xs = tested (input_byte k) 23 (byte xs)

unfoldable pub input_section : Form → List ℕ → Reading (List ℕ)
input_section form xs =
    and_then (tested (λ (n : ℕ). leb n form.most_inputs) 22 (number form.count_bytes xs))
    (λ (n : ℕ) (rest : List ℕ). fields input_field 0 (record_bytes * n) rest)

-- the longest file of a form: the form number, and three full sections, each after its count; and of both
abbrev pub longest_of : Form → ℕ
longest_of form = 2 + (2 + 2 * 1024) + (2 + form.entry_bytes * 1024) + (form.count_bytes + record_bytes * form.most_inputs)

abbrev pub longest : ℕ
longest = longest_of form2

-- refusal 24: "bytes after the end"
abbrev pub ended : Station → List ℕ → Reading Station
ended s [] = got s []
ended s (b ∷ rest) = refused 24

-- the sections in their order, after the form number (refusal 20)
unfoldable pub parse_of : Form → List ℕ → Reading Station
parse_of form xs =
    and_then (tested (λ (n : ℕ). eqb n form.number) 20 (number 2 xs)) (λ (n : ℕ) (a : List ℕ).
    and_then (rom_section a) (λ (rom : List ℕ) (b : List ℕ).
    and_then (sheet_section form (length rom) b) (λ (sheet : List ℕ) (c : List ℕ).
    and_then (input_section form c) (λ (inputs : List ℕ) (d : List ℕ).
    ended (record { rom = rom; sheet = sheet; inputs = inputs }) d))))
