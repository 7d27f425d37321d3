-- The numbers that stand for the answers of the reader and the writer tell them apart.
-- Assumes nothing.
use Rattle.std.specs.Prelude.{◌≡◌, ℕ, Result}
use Rattle.station_file.specs.Answers.{read_reply, write_reply}
use Rattle.station_file.specs.declared.Loaded.{Loaded}
use Rattle.station_file.specs.declared.FileRefusal.{FileRefusal}

-- what stands for each answer loses nothing
pub record FilesApart : Type 0 where
  pub reads : (a b : Result Loaded FileRefusal) → read_reply a ≡ read_reply b → a ≡ b
  pub writes : (a b : Result ℕ FileRefusal) → write_reply a ≡ write_reply b → a ≡ b
