use borrow.Author.Tests.{lt-leb}
use Rattle.control.specs.Control.{branch_of}
use Rattle.control.proofs.Regs.branch.Goals as goal

pub returns : goal.returns
unfolding branch_of
returns c = λ stack. simp (lt-leb _ _ (rw c.addresses.ensures at c.if-addresses-to.false), c.jump.ensures stack)
