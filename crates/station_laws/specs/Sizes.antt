-- How much a good file holds, and how long it is: buffers of these sizes are never too short for one.
-- Assumes nothing.
use Rattle.std.specs.Prelude.{◌≡◌, List, ℕ, ◌≤◌, length}
use Rattle.station_file.specs.Reading.{got}
use Rattle.station_file.specs.Forms.{load_of}
use Rattle.station_file.specs.Station.{Station, longest}

pub record Small (xs : List ℕ) (s : Station) : Type 0 where
  pub rom : length s.rom ≤ 1024
  pub sheet : length s.sheet ≤ 2048
  pub inputs : length s.inputs ≤ 45045
  pub file : length xs ≤ longest

abbrev pub Sizes : Type 0
Sizes = (xs : List ℕ) (s : Station) (rest : List ℕ) → load_of xs ≡ got s rest → Small xs s
