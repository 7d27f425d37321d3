use Rattle.std.proofs.Common.{◌≡◌, arith, rules}
use Rattle.peripherals.proofs.Tests.{one_more, one_fails, out, rest}
use Rattle.peripherals.proofs.ranges.in_range.Goals as goal

pub returns-then-held-mask : goal.returns-then-held-mask
returns-then-held-mask c =
    let p = c.args.p in
    out p (one_fails p.registers _ (rw c.mask.ensures at c.if-held-mask.true) (omega arith))

pub loop-at-preserved : goal.loop-at-preserved
loop-at-preserved c =
    let l = c.loop-at in
    one_more c.args.p.registers l.at (rw c.mask.ensures at c.if-held-mask.false) l.invariant

pub returns : goal.returns
returns c =
    let p = c.args.p in
    let l = c.loop-at in
    let e : l.at ≡ 7 = omega arith in
    rest p (rw e at l.invariant) (search rules) (search rules)
