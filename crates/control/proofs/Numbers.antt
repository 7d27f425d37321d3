-- No refusal has the number 0.
-- Assumes nothing.
use Rattle.std.proofs.Common.{◌≡◌, false, eqb, refl}
use Rattle.machine.specs.Refusals.{number_of}
use Rattle.machine.specs.declared.Refusal.{Refusal}
use Rattle.machine.specs.declared.Refusal.TheVariants.{OutOfRange, PastRom, NoInstruction, Unsupported, NoRegister, BadTarget, StackFull, StackEmpty, PastTable, MissingCell}

pub number_not_0 : (r : Refusal) → eqb (number_of r) 0 ≡ false
number_not_0 OutOfRange = refl
number_not_0 PastRom = refl
number_not_0 NoInstruction = refl
number_not_0 Unsupported = refl
number_not_0 NoRegister = refl
number_not_0 BadTarget = refl
number_not_0 StackFull = refl
number_not_0 StackEmpty = refl
number_not_0 PastTable = refl
number_not_0 MissingCell = refl
