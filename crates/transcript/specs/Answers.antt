-- What `transcript` and `why` answer, in the numbers of document 01, "Refusal numbers".
-- Assumes nothing.
use Rattle.std.specs.Prelude.{List, ℕ, Result, Ok, Err}
use Rattle.station_file.specs.Answers.{file_number}
use Rattle.station_file.specs.declared.FileRefusal.{FileRefusal}
use Rattle.transcript.specs.Print.{Reply, printed, refused, Print}

abbrev pub print_reply : Result ℕ FileRefusal → Reply
print_reply (Ok n) = printed n
print_reply (Err f) = refused (file_number f)

-- the answer, with what the lent buffer then holds
abbrev pub printed_by : Result ℕ FileRefusal → List ℕ → Print
printed_by r out = record { reply = print_reply r; out = out }
