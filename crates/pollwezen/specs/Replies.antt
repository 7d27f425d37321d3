-- What the entries for the check, the file and its text answer: a number, and what goes with it. Where the number is a refusal,
-- of document 01, "Refusal numbers", the rest is 0.
-- Assumes nothing.
use Rattle.std.specs.Prelude.{◌≡◌, ℕ, Result}
use Rattle.machine.specs.Refusals.{number_of}
use Rattle.machine.specs.declared.Refusal.{Refusal}
use Rattle.station_file.specs.Answers.{file_number, read_reply, write_reply}
use Rattle.station_file.specs.Read as read
use Rattle.station_file.specs.Write as write
use Rattle.station_file.specs.declared.FileRefusal.{FileRefusal}
use Rattle.station_file.specs.declared.Loaded.{Loaded}
use Rattle.transcript.specs.Answers.{print_reply}
use Rattle.transcript.specs.Print as print
use Rattle.verifier.specs.Verdict.{CheckAnswer, pass, fail, refused, answer_of}
use Rattle.verifier.specs.declared.CheckRefusal.{CheckRefusal}
use Rattle.verifier.specs.declared.Verdict.{Verdict}
use Rattle.pollwezen.specs.declared.OutputReply.{OutputReply}
use Rattle.pollwezen.specs.declared.ReadReply.{ReadReply}
use Rattle.pollwezen.specs.declared.VerdictReply.{VerdictReply}

-- a sheet that passes is 0, and one that fails 254, which no refusal is
abbrev pub verdict_reply_of : CheckAnswer → VerdictReply
verdict_reply_of pass = record { number = 0; word = 0; rule = 0 }
verdict_reply_of (fail word rule) = record { number = 254; word = word; rule = rule }
verdict_reply_of (refused n) = record { number = n; word = 0; rule = 0 }

-- a station that was read is 0
abbrev pub read_reply_of : read.Reply → ReadReply
read_reply_of (read.station words entries records) = record { number = 0; words = words; entries = entries; records = records }
read_reply_of (read.refused n) = record { number = n; words = 0; entries = 0; records = 0 }

abbrev pub output : ℕ → ℕ → OutputReply
output number length = record { number = number; length = length }

-- a file that was written is 0
abbrev pub write_reply_of : write.Reply → OutputReply
write_reply_of (write.wrote n) = output 0 n
write_reply_of (write.refused n) = output n 0

-- a text that was put into the lent buffer is 0
abbrev pub print_reply_of : print.Reply → OutputReply
print_reply_of (print.printed n) = output 0 n
print_reply_of (print.refused n) = output n 0

-- the replies lose nothing, and no number is a refusal of the machine and of a file both
pub record RepliesApart : Type 0 where
  pub checks : (a b : Result Verdict CheckRefusal) → verdict_reply_of (answer_of a) ≡ verdict_reply_of (answer_of b) → a ≡ b
  pub reads : (a b : Result Loaded FileRefusal) → read_reply_of (read_reply a) ≡ read_reply_of (read_reply b) → a ≡ b
  pub writes : (a b : Result ℕ FileRefusal) → write_reply_of (write_reply a) ≡ write_reply_of (write_reply b) → a ≡ b
  pub prints : (a b : Result ℕ FileRefusal) → print_reply_of (print_reply a) ≡ print_reply_of (print_reply b) → a ≡ b
  pub numbers : (a : Refusal) (b : FileRefusal) → number_of a ≡ file_number b → ⊥
