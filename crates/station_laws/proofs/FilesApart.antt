-- The answers of the reader and the writer are found again from document 01's numbers.
-- Assumes nothing.
use mathlib.Core.Path.{◌≡◌, refl, ap}
use mathlib.Mathlib.Logic.Function.Defs.{LeftInverse-Injective}
use Rattle.std.specs.Prelude.{ℕ, Result, Ok, Err}
use Rattle.station_file.specs.Answers.{read_reply, write_reply}
use Rattle.station_file.specs.Read as read
use Rattle.station_file.specs.Write as write
use Rattle.station_file.specs.declared.Loaded.{Loaded}
use Rattle.station_file.specs.declared.FileRefusal.{FileRefusal}
use Rattle.station_file.proofs.FileNumbers.{numbered, numbered_again}
use Rattle.station_laws.specs.FilesApart.{FilesApart}

loaded_from : read.Reply → Result Loaded FileRefusal
loaded_from (read.station words entries records) = Ok (record { words = words; entries = entries; records = records })
loaded_from (read.refused n) = Err (numbered n)

loaded_again : (a : Result Loaded FileRefusal) → loaded_from (read_reply a) ≡ a
unfolding loaded_from
loaded_again (Ok l) = refl
loaded_again (Err f) = ap Err (numbered_again f)

written_from : write.Reply → Result ℕ FileRefusal
written_from (write.wrote n) = Ok n
written_from (write.refused n) = Err (numbered n)

written_again : (a : Result ℕ FileRefusal) → written_from (write_reply a) ≡ a
unfolding written_from
written_again (Ok n) = refl
written_again (Err f) = ap Err (numbered_again f)

pub files_apart : FilesApart
files_apart = record {
  reads = LeftInverse-Injective loaded_from read_reply loaded_again;
  writes = LeftInverse-Injective written_from write_reply written_again;
}
