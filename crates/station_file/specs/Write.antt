-- What the writer answers, and what it leaves in the lent buffer: document 01, "The writer first tests its station in file
-- order (22, 23), then room (25), and when refused writes nothing".
-- Assumes nothing.
use Rattle.std.specs.Prelude.{◌≡◌, Bool, true, ◌&&◌, cond, List, [], ◌∷◌, ◌++◌, ℕ, zero, suc, ◌*◌, ◌/◌, ◌%◌, ◌^◌, eqb, leb, ltb, length}
use Rattle.station_file.specs.Read.{overlay}
use Rattle.station_file.specs.Station.{entry_byte, Form, form2, Station, record_bytes, input_byte, rom_count, sheet_count}
use Rattle.station_file.specs.Forms.{doubled, in_file, lowest_form}

-- a number in so many bytes, high byte first
abbrev pub bytes_of : ℕ → ℕ → List ℕ
bytes_of zero v = []
bytes_of (suc n) v = v / 256 ^ n % 256 ∷ bytes_of n v

abbrev pub word_bytes : List ℕ → List ℕ
word_bytes [] = []
word_bytes (w ∷ ws) = bytes_of 2 w ++ word_bytes ws

-- how many whole input records; a flat list of bytes that is no whole number of records is refused with 22
abbrev pub records : Station → ℕ
records s = length s.inputs / record_bytes

-- the sections in their order, each after its count
unfoldable pub render_of : Form → Station → List ℕ
render_of form s =
    bytes_of 2 form.number
    ++ bytes_of 2 (length s.rom) ++ word_bytes s.rom
    ++ bytes_of 2 (length s.sheet / form.entry_bytes) ++ s.sheet
    ++ bytes_of form.count_bytes (records s) ++ s.inputs

-- a test at each element, by its index
abbrev pub every_at : (ℕ → ℕ → Bool) → ℕ → List ℕ → Bool
every_at ok k [] = true
every_at ok k (x ∷ xs) = ok k x && every_at ok (suc k) xs

-- every element is small: bytes, and words, as a file and a ROM have them
abbrev pub below : ℕ → List ℕ → Type 0
below n xs = every_at (λ (k : ℕ) (x : ℕ). ltb x n) 0 xs ≡ true

-- an entry for each word, or none at all
abbrev pub sheet_length : Form → ℕ → ℕ → Bool
sheet_length form words n = sheet_count (form.entry_bytes * words) n

abbrev pub input_count : Form → List ℕ → Bool
input_count form xs = eqb (length xs % record_bytes) 0 && leb (length xs / record_bytes) form.most_inputs

-- the number of the station's first refusal in file order, or 0
unfoldable pub station_refusal : Form → Station → ℕ
station_refusal form s =
    cond (rom_count (length s.rom))
    (cond (sheet_length form (length s.rom) (length s.sheet))
    (cond (every_at (entry_byte form s.sheet) 0 s.sheet)
    (cond (input_count form s.inputs)
    (cond (every_at input_byte 0 s.inputs) 0 23) 22) 23) 22) 22

-- the bytes written, or a refusal
pub data Reply : Type 0 where
  wrote : ℕ → Reply
  refused : ℕ → Reply

pub record Write : Type 0 where
  pub reply : Reply
  pub out : List ℕ

-- "when refused writes nothing"
abbrev pub unwritten : ℕ → List ℕ → Write
unwritten n out = record { reply = refused n; out = out }

-- "then room (25)"
abbrev pub put_of : List ℕ → List ℕ → Write
put_of bytes out = cond (leb (length bytes) (length out)) (record { reply = wrote (length bytes); out = overlay bytes out }) (unwritten 25 out)

-- the one file that is written for a station
unfoldable pub file_of : Station → List ℕ
file_of s = render_of (lowest_form s) (in_file (lowest_form s) s)

unfoldable pub write_of : Station → List ℕ → Write
write_of s out = cond (eqb (station_refusal form2 s) 0) (put_of (file_of s) out) (unwritten (station_refusal form2 s) out)

-- a sheet of single levels, made into one of ranges
unfoldable pub widen_of : List ℕ → List ℕ → Write
widen_of levels out = put_of (doubled levels) out
