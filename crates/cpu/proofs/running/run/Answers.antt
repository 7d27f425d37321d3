use Rattle.cpu.proofs.running.run.Goals as goal

pub returns : goal.returns
returns c = rw (c.end_of.ensures, c.join.ensures) c.go-last.ensures.ran
