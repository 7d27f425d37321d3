use mathlib.Core.Path.{◌∙◌, refl}
use native.Mathlib.Omega.{arith}
use borrow.Author.Rules.{rules}
use Rattle.transcript.proofs.Puts.{from_front, put_short, put_long}
use Rattle.transcript.proofs.put.put_whole.Goals as goal
use Rattle.transcript.proofs.put.put_whole.Goals.{then-out-most+else-out-nowhere, else-out-most}

pub returns-then-out-nowhere-clause-printed : goal.returns-then-out-nowhere-clause-printed
returns-then-out-nowhere-clause-printed g c =
    let measured = from_front refl c.new-nowhere.ensures.front (omega arith) (c.requires.1.1 _ _ c.print.ensures) in
    put_short _ _ (omega (arith, measured.1, c.if-out-nowhere.true))

pub returns-clause-printed : goal.returns-clause-printed
returns-clause-printed g c =
    let printed = c.requires.1.1 _ _ c.print-2.ensures in
    let put = from_front c.new-sink.ensures.untouched c.new-sink.ensures.front (omega arith) printed in
    put_long _ _ _ _ put.1
    (elim c.if-out-most.branch [
      | then-out-most+else-out-nowhere w ↦
          let measured = from_front refl w.new-nowhere.ensures.front (omega arith) (c.requires.1.1 _ _ w.print.ensures) in
          omega (arith, measured.1, w.if-out-nowhere.false)
      | else-out-most w ↦ omega (arith, w.if-out-most.false)
    ])
    (search rules ∙ put.0)
