-- Each answer comes back from its reply, so the replies lose nothing.
-- Assumes nothing.
use mathlib.Core.Path.{◌≡◌, ◌∙◌, ap, refl, sym}
use mathlib.Core.Bool.{Bool, true, false, cond, ◌&&◌, false≢true}
use mathlib.Mathlib.Logic.Function.Defs.{LeftInverse-Injective}
use Prim.Native.Nat.{ℕ}
use Rattle.std.specs.Prelude.{Result, Ok, Err}
use native.Mathlib.Omega.{arith}
use borrow.Author.Tests.{ne_eqb}
use lib.Dec.{eqb, leb}
use Rattle.machine.specs.Refusals.{number_of}
use Rattle.machine.specs.declared.Refusal.{Refusal}
use Rattle.machine.specs.declared.Refusal.TheVariants.{OutOfRange, PastRom, NoInstruction, Unsupported, NoRegister, BadTarget, StackFull, StackEmpty, PastTable, MissingCell}
use Rattle.station_file.proofs.FileNumbers.{numbered, numbered_again, file_number_lem}
use Rattle.station_file.specs.Answers.{file_number, read_reply, write_reply}
use Rattle.station_file.specs.declared.FileRefusal.{FileRefusal}
use Rattle.station_file.specs.declared.FileRefusal.TheVariants.{Form, Early, Count, Entry, After, Room}
use Rattle.station_file.specs.declared.Loaded.{Loaded}
use Rattle.transcript.specs.Answers.{print_reply}
use Rattle.verifier.specs.Verdict.{answer_of}
use Rattle.verifier.specs.declared.CheckRefusal.{CheckRefusal}
use Rattle.verifier.specs.declared.CheckRefusal.TheVariants.{RomLength, SheetLength}
use Rattle.verifier.specs.declared.Verdict.{Verdict}
use Rattle.verifier.specs.declared.Verdict.TheVariants.{Pass, Fail}
use Rattle.pollwezen.specs.Replies.{verdict_reply_of, read_reply_of, write_reply_of, print_reply_of, RepliesApart}
use Rattle.pollwezen.specs.declared.OutputReply.{OutputReply}
use Rattle.pollwezen.specs.declared.ReadReply.{ReadReply}
use Rattle.pollwezen.specs.declared.VerdictReply.{VerdictReply}

verdict_in : VerdictReply → Result Verdict CheckRefusal
verdict_in r =
    cond (eqb r.number 0) (Ok Pass)
    (cond (eqb r.number 254) (Ok (Fail r.word r.rule)) (Err (cond (eqb r.number 1) RomLength SheetLength)))

verdict_back : (v : Result Verdict CheckRefusal) → verdict_in (verdict_reply_of (answer_of v)) ≡ v
unfolding verdict_in
verdict_back (Ok Pass) = refl
verdict_back (Ok (Fail word rule)) = refl
verdict_back (Err RomLength) = refl
verdict_back (Err SheetLength) = refl

-- the number of a file refusal is not 0, and tells the refusal
not_0 : (f : FileRefusal) → file_number f ≡ 0 → ⊥
not_0 f e = omega (arith, file_number_lem f)

loaded_in : ReadReply → Result Loaded FileRefusal
loaded_in r = cond (eqb r.number 0) (Ok (record { words = r.words; entries = r.entries; records = r.records })) (Err (numbered r.number))

loaded_back : (l : Result Loaded FileRefusal) → loaded_in (read_reply_of (read_reply l)) ≡ l
unfolding loaded_in
loaded_back (Ok l) = refl
loaded_back (Err f) = rw (ne_eqb (file_number f) 0 (not_0 f)) (ap Err (numbered_again f))

-- of a file or a text
length_in : OutputReply → Result ℕ FileRefusal
length_in r = cond (eqb r.number 0) (Ok r.length) (Err (numbered r.number))

written_back : (w : Result ℕ FileRefusal) → length_in (write_reply_of (write_reply w)) ≡ w
unfolding length_in
written_back (Ok n) = refl
written_back (Err f) = rw (ne_eqb (file_number f) 0 (not_0 f)) (ap Err (numbered_again f))

printed_back : (p : Result ℕ FileRefusal) → length_in (print_reply_of (print_reply p)) ≡ p
unfolding length_in
printed_back (Ok n) = refl
printed_back (Err f) = rw (ne_eqb (file_number f) 0 (not_0 f)) (ap Err (numbered_again f))

-- a file's numbers are 20 to 25, and none of the machine's is
abbrev is_file : ℕ → Bool
is_file n = leb 20 n && leb n 25

of_file : (f : FileRefusal) → is_file (file_number f) ≡ true
of_file Form = refl
of_file Early = refl
of_file Count = refl
of_file Entry = refl
of_file After = refl
of_file Room = refl

not_of_file : (q : Refusal) → is_file (number_of q) ≡ false
not_of_file OutOfRange = refl
not_of_file PastRom = refl
not_of_file NoInstruction = refl
not_of_file Unsupported = refl
not_of_file NoRegister = refl
not_of_file BadTarget = refl
not_of_file StackFull = refl
not_of_file StackEmpty = refl
not_of_file PastTable = refl
not_of_file MissingCell = refl

pub replies_apart : RepliesApart
replies_apart = record {
  checks = LeftInverse-Injective verdict_in (λ (v : Result Verdict CheckRefusal). verdict_reply_of (answer_of v)) verdict_back;
  reads = LeftInverse-Injective loaded_in (λ (l : Result Loaded FileRefusal). read_reply_of (read_reply l)) loaded_back;
  writes = LeftInverse-Injective length_in (λ (w : Result ℕ FileRefusal). write_reply_of (write_reply w)) written_back;
  prints = LeftInverse-Injective length_in (λ (p : Result ℕ FileRefusal). print_reply_of (print_reply p)) printed_back;
  numbers = λ a b e. absurd (false≢true (sym (not_of_file a) ∙ ap is_file e ∙ of_file b));
}
