-- A file that was read, taken apart: what every theorem about files goes by. Proved in proofs/Parts.antt.
-- Assumes nothing.
use Rattle.std.specs.Prelude.{◌≡◌, true, List, [], ℕ, length}
use Rattle.station_file.specs.Reading.{got}
use Rattle.station_file.specs.Station.{Form, Station, rom_count, entry_byte, input_byte, parse_of}
use Rattle.station_file.specs.Write.{every_at, below, sheet_length, input_count, render_of}

module _ (form : Form) where
  -- a station that the writer takes: each of its tests passes
  pub record Sound (s : Station) : Type 0 where
    pub words : rom_count (length s.rom) ≡ true
    pub sheet : sheet_length form (length s.rom) (length s.sheet) ≡ true
    pub entries : every_at (entry_byte form s.sheet) 0 s.sheet ≡ true
    pub inputs : input_count form s.inputs ≡ true
    pub bytes : every_at input_byte 0 s.inputs ≡ true

  -- nothing is left; the writer takes the station; the file is as long as the one that is written for it, and the same if
  -- its elements are bytes
  pub record Parts (xs : List ℕ) (s : Station) (rest : List ℕ) : Type 0 where
    pub over : rest ≡ []
    pub sound : Sound s
    pub size : length xs ≡ length (render_of form s)
    pub same : below 256 xs → render_of form s ≡ xs

  abbrev pub TakenApart : Type 0
  TakenApart = (xs : List ℕ) (s : Station) (rest : List ℕ) → parse_of form xs ≡ got s rest → Parts xs s rest
