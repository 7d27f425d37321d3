use Rattle.std.proofs.lemmas.Result.{err_from_is_err_and}
use Rattle.laws.proofs.Bits.{byte_bit}
use Rattle.control.specs.Control.{with_skip, return_of}
use Rattle.control.proofs.Closed.{refused, closed}
use Rattle.control.proofs.Regs.ret.Goals as goal

pub returns-in_err-back : goal.returns-in_err-back
unfolding return_of
returns-in_err-back c =
    let p = err_from_is_err_and c.from_residual.result c.from_residual.ensures.1 in
    rw (p.1, p.2) (refused _ _ _ _ _ _ c.in_err-back.ensures)

pub returns : goal.returns
unfolding return_of
returns c = rw byte_bit (closed _ (with_skip c.args.skip) _ _ _ c.in_ok-back.ensures)
