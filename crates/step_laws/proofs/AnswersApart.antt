-- Different answers have different numbers: from a number the answer is found again.
-- Assumes nothing.
use mathlib.Core.Path.{◌≡◌, refl}
use mathlib.Core.Bool.{cond}
use mathlib.Core.List.{[], ◌∷◌, map}
use mathlib.Mathlib.Logic.Function.Defs.{LeftInverse, LeftInverse-Injective}
use Prim.Native.Nat.{ℕ}
use lib.Dec.{eqb}
use lib.ListN.{get_or}
use Rattle.std.specs.Prelude.{Result, Ok, Err}
use Rattle.machine.specs.Refusals.{number_of}
use Rattle.machine.specs.declared.Refusal.{Refusal}
use Rattle.machine.specs.declared.Refusal.TheVariants.{OutOfRange, PastRom, NoInstruction, Unsupported, NoRegister, BadTarget, StackFull, StackEmpty, PastTable, MissingCell}
use Rattle.cpu.specs.Answers.{reply_of, reply_number, end_of}
use Rattle.cpu.specs.declared.Completion.{Completion}
use Rattle.cpu.specs.declared.Completion.TheVariants.{Done, Standby}
use Rattle.step_laws.specs.AnswersApart.{AnswersApart}

-- a refusal for 30 and for 31, what stands for 0, then a refusal for each number, then what stands for every other
abbrev found : {A : Type 0} → A → (Refusal → A) → A → ℕ → A
found zero refuse other n =
    cond (eqb n 30) (refuse NoRegister)
    (cond (eqb n 31) (refuse MissingCell)
    (get_or (zero ∷ map refuse (OutOfRange ∷ PastRom ∷ NoInstruction ∷ Unsupported ∷ BadTarget ∷ StackFull ∷ StackEmpty ∷ PastTable ∷ [])) n other))

refusal_found : {A : Type 0} (zero other : A) (refuse : Refusal → A) (r : Refusal) → found zero refuse other (number_of r) ≡ refuse r
refusal_found zero other refuse OutOfRange = refl
refusal_found zero other refuse PastRom = refl
refusal_found zero other refuse NoInstruction = refl
refusal_found zero other refuse Unsupported = refl
refusal_found zero other refuse NoRegister = refl
refusal_found zero other refuse BadTarget = refl
refusal_found zero other refuse StackFull = refl
refusal_found zero other refuse StackEmpty = refl
refusal_found zero other refuse PastTable = refl
refusal_found zero other refuse MissingCell = refl

abbrev number : Result Completion Refusal → ℕ
number a = reply_number (reply_of a)

reply_found : LeftInverse (found (Ok Done) Err (Ok Standby)) number
reply_found (Ok Done) = refl
reply_found (Ok Standby) = refl
reply_found (Err r) = refusal_found (Ok Done) (Ok Standby) Err r

end_found : LeftInverse (found (Ok tt) Err (Ok tt)) end_of
end_found (Ok u) = refl
end_found (Err r) = refusal_found (Ok tt) (Ok tt) Err r

pub answers_apart : AnswersApart
answers_apart = record {
  replies = LeftInverse-Injective (found (Ok Done) Err (Ok Standby)) number reply_found;
  ends = LeftInverse-Injective (found (Ok tt) Err (Ok tt)) end_of end_found;
}
