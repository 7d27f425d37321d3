use Rattle.operations.specs.Writes.{writes_of}
use Rattle.operations.proofs.written.writes.Goals as goal

pub returns-in-Fixed : goal.returns-in-Fixed
unfolding writes_of
returns-in-Fixed c src = rw c.in-Fixed.is (c.fixed_writes.ensures _ _ _ src)
