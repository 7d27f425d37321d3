use Rattle.machine.proofs.Machine.reset.Goals as goal

pub returns : goal.returns
returns c = rw (c.reset.ensures, c.reset-2.ensures)
