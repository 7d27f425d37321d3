-- The machine refusals in the numbers of document 01, "Refusal numbers", and document 02, E1 and E4.
-- Assumes nothing.
use Rattle.std.specs.Prelude.{ℕ}
use Rattle.machine.specs.declared.Refusal.{Refusal}
use Rattle.machine.specs.declared.Refusal.TheVariants.{OutOfRange, PastRom, NoInstruction, Unsupported, NoRegister, BadTarget, StackFull, StackEmpty, PastTable, MissingCell}

-- the table of refusals, 1 to 8, with document 02's 30 after 4 and 31 after 8; 9 is in verifier (Verdict), 10 in isa (Encode), 20 to 25 in station_file (Answers)
abbrev pub number_of : Refusal → ℕ
number_of OutOfRange = 1
number_of PastRom = 2
number_of NoInstruction = 3
number_of Unsupported = 4
number_of NoRegister = 30
number_of BadTarget = 5
number_of StackFull = 6
number_of StackEmpty = 7
number_of PastTable = 8
number_of MissingCell = 31
