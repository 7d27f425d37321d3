-- What the reader and the writer answer, in the numbers of document 01, "Refusal numbers".
-- Assumes nothing.
use Rattle.std.specs.Prelude.{List, ℕ, Result, Ok, Err}
use Rattle.station_file.specs.Station.{Station}
use Rattle.station_file.specs.Read as read
use Rattle.station_file.specs.Read.{Buffers, Read}
use Rattle.station_file.specs.Write as write
use Rattle.station_file.specs.declared.FileRefusal.{FileRefusal}
use Rattle.station_file.specs.declared.FileRefusal.TheVariants.{Form, Early, Count, Entry, After, Room}
use Rattle.station_file.specs.declared.Loaded.{Loaded}

-- the file refusals
abbrev pub file_number : FileRefusal → ℕ
file_number Form = 20
file_number Early = 21
file_number Count = 22
file_number Entry = 23
file_number After = 24
file_number Room = 25

abbrev pub read_reply : Result Loaded FileRefusal → read.Reply
read_reply (Ok l) = read.station l.words l.entries l.records
read_reply (Err f) = read.refused (file_number f)

abbrev pub write_reply : Result ℕ FileRefusal → write.Reply
write_reply (Ok n) = write.wrote n
write_reply (Err f) = write.refused (file_number f)

-- the reader's answer, with what the lent buffers then hold
abbrev pub buffers_of : List ℕ → List ℕ → List ℕ → Buffers
buffers_of rom sheet inputs = record { rom = rom; sheet = sheet; inputs = inputs }

abbrev pub read_by : Result Loaded FileRefusal → Buffers → Read
read_by r b = record { reply = read_reply r; buffers = b }

abbrev pub station_of : List ℕ → List ℕ → List ℕ → Station
station_of rom sheet inputs = record { rom = rom; sheet = sheet; inputs = inputs }

-- the writer's answer, with what the lent buffer then holds
abbrev pub written_by : Result ℕ FileRefusal → List ℕ → write.Write
written_by r out = record { reply = write_reply r; out = out }
