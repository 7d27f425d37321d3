-- The station that the code holds, and what is told of it or of the file's refusal.
-- Assumes nothing.
use Rattle.std.specs.Prelude.{◌≡◌, List, ℕ, Result, Ok, Err}
use Rattle.station_file.specs.Answers.{file_number, station_of}
use Rattle.station_file.specs.Reading.{Reading}
use Rattle.station_file.specs.Station.{Station}
use Rattle.station_file.specs.declared.FileRefusal.{FileRefusal}
use Rattle.transcript.specs.declared.Station as code
use Rattle.transcript.specs.Why.{refusal_line, told_of}

abbrev pub station_in : code.Station → Station
station_in s = station_of s.rom.now s.sheet.now s.inputs.now

abbrev pub told_in : (Station → List ℕ) → Result code.Station FileRefusal → List ℕ
told_in good (Ok s) = good (station_in s)
told_in good (Err f) = refusal_line (file_number f)

-- whatever is told of it is told of what a file was read as
abbrev pub Told : Result code.Station FileRefusal → Reading Station → Type 0
Told r read = (good : Station → List ℕ) → told_in good r ≡ told_of good read
