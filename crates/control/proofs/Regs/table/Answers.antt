use borrow.Author.Tests.{lt-leb}
use Rattle.control.specs.Control.{table_of}
use Rattle.control.proofs.Regs.table.Goals as goal

pub returns : goal.returns
unfolding table_of
returns c = λ stack. simp (lt-leb _ _ (rw c.levels.ensures at c.if-levels-self.false), c.next.ensures, c.jump.ensures stack)
