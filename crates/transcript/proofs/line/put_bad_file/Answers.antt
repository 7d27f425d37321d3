use native.Mathlib.Omega.{arith}
use Rattle.transcript.proofs.Decimals.{std_same}
use Rattle.transcript.proofs.Puts.{joined, reworded}
use Rattle.transcript.proofs.line.put_bad_file.Goals as goal

pub returns : goal.returns
returns c = joined (joined c.put.ensures (reworded (std_same _ (omega arith)) c.put_decimal.ensures)) c.put-2.ensures
