use mathlib.Core.Path.{◌≡◌, ◌∙◌, ap}
use mathlib.Core.List.{◌++◌, ◌∷◌}
use Rattle.transcript.specs.Printing.{refusal_in}
use Rattle.transcript.specs.Text.{decimal, end_text, space}
use Rattle.transcript.proofs.Decimals.{std_same}
use Rattle.transcript.proofs.Lines.{spaced}
use native.Mathlib.Omega.{arith}
use borrow.Author.Rules.{rules}
use Rattle.transcript.proofs.Puts.{joined, reworded}
use Rattle.transcript.proofs.line.put_end.Goals as goal

pub returns : goal.returns
returns c =
    let a = c.args in
    let number : c.map_or.result ≡ refusal_in a.refusal = search rules in
    let first = end_text ++ decimal a.count.steps in
    let second = first ++ (space ∷ decimal a.count.cycles) in
    let steps = joined c.put.ensures (reworded (std_same _ (omega arith)) c.put_decimal.ensures) in
    let cycles = joined (joined steps c.put-2.ensures) (reworded (std_same _ (omega arith)) c.put_decimal-2.ensures) in
    let refusal = joined (joined (reworded (spaced first (decimal a.count.cycles)) cycles) c.put-3.ensures) (reworded (std_same _ (omega arith) ∙ ap decimal number) c.put_decimal-3.ensures) in
    joined (reworded (spaced second (decimal (refusal_in a.refusal))) refusal) c.put-4.ensures
