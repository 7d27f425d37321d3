use native.Mathlib.Omega.{arith}
use Rattle.transcript.proofs.Decimals.{std_same}
use Rattle.transcript.proofs.Lines.{named_word}
use Rattle.transcript.proofs.Puts.{joined, reworded}
use Rattle.transcript.proofs.line.put_failure.Goals as goal

pub returns : goal.returns
returns c =
    joined (joined (reworded (named_word _ _ c.hex4-d.ensures) c.put.ensures) (reworded (std_same _ (omega arith)) c.put_decimal.ensures)) c.put-2.ensures
