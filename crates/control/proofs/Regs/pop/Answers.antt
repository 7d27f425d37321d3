use Rattle.std.proofs.lemmas.Result.{err_from_is_err_and}
use Rattle.memory.specs.Chip.{chip_of}
use Rattle.control.specs.Control.{jump_to, next_of, pop_of}
use Rattle.control.proofs.Closed.{refused, closed}
use Rattle.control.proofs.Regs.pop.Goals as goal

pub returns-in_err-below : goal.returns-in_err-below
unfolding pop_of
returns-in_err-below c =
    let p = err_from_is_err_and c.from_residual.result c.from_residual.ensures.1 in
    rw (p.1, p.2) (refused _ _ _ _ _ _ c.in_err-below.ensures)

pub returns : goal.returns
unfolding pop_of
returns c =
    let on = next_of (chip_of c.args.model) c.args.self.pc in
    rw (c.jump.ensures _, c.next.ensures) (closed _ (jump_to on) _ _ _ c.in_ok-below.ensures)
