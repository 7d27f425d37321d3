-- Different verdicts differ in document 01's numbers.
-- Assumes nothing.
use mathlib.Core.Path.{refl}
use mathlib.Core.Bool.{cond}
use Rattle.std.specs.Prelude.{Result, Ok, Err}
use mathlib.Mathlib.Logic.Function.Defs.{LeftInverse, LeftInverse-Injective}
use lib.Dec.{eqb}
use Rattle.verifier.specs.Verdict.{CheckAnswer, pass, fail, refused, answer_of, VerdictsApart}
use Rattle.verifier.specs.declared.CheckRefusal.{CheckRefusal}
use Rattle.verifier.specs.declared.CheckRefusal.TheVariants.{RomLength, SheetLength}
use Rattle.verifier.specs.declared.Verdict.{Verdict}
use Rattle.verifier.specs.declared.Verdict.TheVariants.{Pass, Fail}

back : CheckAnswer → Result Verdict CheckRefusal
back pass = Ok Pass
back (fail word rule) = Ok (Fail word rule)
back (refused n) = Err (cond (eqb n 1) RomLength SheetLength)

comes_back : LeftInverse back answer_of
unfolding back
comes_back (Ok Pass) = refl
comes_back (Ok (Fail word rule)) = refl
comes_back (Err RomLength) = refl
comes_back (Err SheetLength) = refl

pub verdicts_apart : VerdictsApart
verdicts_apart = LeftInverse-Injective back answer_of comes_back
