use native.Mathlib.Omega.{arith}
use borrow.Author.Rules.{rules}
use Rattle.transcript.proofs.Decimals.{std_same}
use Rattle.transcript.proofs.Puts.{bounded, joined, reworded}
use Rattle.transcript.proofs.explain.put_found.Goals as goal

pub returns : goal.returns
returns c =
    bounded 17 (search rules)
    (joined (reworded (std_same _ (omega arith)) c.put_decimal.ensures) (reworded c.after_number.ensures c.put.ensures))
