use Rattle.std.proofs.Common.{◌≡◌, ◌∙◌, arith, rules}
use lib.Bits.{bit_and}
use Rattle.memory.specs.Write.{write_of, kept_of}
use Rattle.memory.proofs.Passing.{at_first, here, rewritten, at_last}
use Rattle.memory.proofs.cells.write.Goals as goal
use Rattle.memory.proofs.cells.write.Goals.{then-left-eq0, else-left-eq0}

pub loop-cell-init : goal.loop-cell-init
loop-cell-init c = record { left = omega arith; written = at_first _ c.args.at (bit_and c.args.v c.mask.result) }

pub loop-cell-preserved : goal.loop-cell-preserved
loop-cell-preserved c =
    let l = c.loop-cell in
    let a = c.args in
    let kept = bit_and a.v c.mask.result in record {
      left = omega (arith, l.invariant.left);
      written =
          elim c.if-left-eq0.branch [
            | then-left-eq0 w ↦ rw (w.cell-is, l.invariant.written) (here a.cells a.at kept l.cell-index (omega (arith, w.if-left-eq0.true, l.invariant.left)))
            | else-left-eq0 w ↦ rw (w.cell-is, l.invariant.written) (rewritten a.cells a.at kept l.cell-index (λ e. omega (arith, w.if-left-eq0.false, l.invariant.left, e)))
          ];
    }

pub returns : goal.returns
unfolding write_of kept_of
returns c =
    let l = c.loop-cell in
    let a = c.args in
    let e : l.cell-index ≡ 128 = omega arith in
    l.invariant.written ∙ rw (e, ← c.mask.ensures) (at_last a.cells a.at _ (search rules))
