-- What the reader answers, and what it leaves in the lent buffers: document 01, "The reader goes from the front and gives the
-- first fault, and last 25 if it fills lent buffers; a refused file yields no station and writes nothing".
-- Assumes nothing.
use Rattle.std.specs.Prelude.{Bool, ◌&&◌, cond, List, ◌++◌, ℕ, ◌/◌, leb, length, drop}
use Rattle.station_file.specs.Reading as reading
use Rattle.station_file.specs.Reading.{Reading}
use Rattle.station_file.specs.Station.{Station, record_bytes}
use Rattle.station_file.specs.Forms.{load_of}

-- "Places past what is written stay"
abbrev pub overlay : List ℕ → List ℕ → List ℕ
overlay xs buffer = xs ++ drop (length xs) buffer

-- the lent buffers; the sheet's has two bytes an entry
pub record Buffers : Type 0 where
  pub rom : List ℕ
  pub sheet : List ℕ
  pub inputs : List ℕ

-- a station with the numbers of its words, sheet entries and input records, or a refusal
pub data Reply : Type 0 where
  station : ℕ → ℕ → ℕ → Reply
  refused : ℕ → Reply

pub record Read : Type 0 where
  pub reply : Reply
  pub buffers : Buffers

abbrev pub fits_in : Station → Buffers → Bool
fits_in s b = leb (length s.rom) (length b.rom) && (leb (length s.sheet) (length b.sheet) && leb (length s.inputs) (length b.inputs))

abbrev pub filled : Station → Buffers → Buffers
filled s b = record { rom = overlay s.rom b.rom; sheet = overlay s.sheet b.sheet; inputs = overlay s.inputs b.inputs }

-- "a refused file yields no station and writes nothing"
abbrev pub unread : ℕ → Buffers → Read
unread n b = record { reply = refused n; buffers = b }

-- refusal 25: "the lent output is too short"
abbrev pub placed : Reading Station → Buffers → Read
placed (reading.got s rest) b =
    cond (fits_in s b)
    (record { reply = station (length s.rom) (length s.sheet / 2) (length s.inputs / record_bytes); buffers = filled s b })
    (unread 25 b)
placed (reading.refused n) b = unread n b

unfoldable pub read_of : List ℕ → Buffers → Read
read_of file b = placed (load_of file) b
