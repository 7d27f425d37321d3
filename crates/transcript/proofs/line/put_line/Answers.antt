use native.Mathlib.Omega.{arith}
use borrow.Author.Rules.{rules}
use Rattle.transcript.proofs.Decimals.{std_same}
use Rattle.transcript.proofs.Puts.{bounded, joined, reworded}
use Rattle.transcript.proofs.line.put_line.Goals as goal

pub returns : goal.returns
returns c =
    bounded 23 (search rules)
    (joined (reworded (std_same _ (omega arith)) c.put_decimal.ensures) (reworded c.fields.ensures c.put.ensures))
