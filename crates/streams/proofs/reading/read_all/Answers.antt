use Rattle.std.proofs.Common.{◌≤◌, arith}
use Rattle.std.proofs.lemmas.Grind.{common_steps}
use Rattle.streams.proofs.Parts.{more_taken}
use Rattle.streams.proofs.reading.read_all.Goals as goal

pub loop-at-preserved : goal.loop-at-preserved
loop-at-preserved g c =
    let further : c.loop-at.at ≤ c.in-Further.next = grind (arith, common_steps) in
    let read = c.in-Further.ensures in
    record {
      in_range = grind (arith, common_steps);
      taken = more_taken _ _ _ _ _ further _ _ read.buffer_unchanged c.loop-at.invariant.taken read.taken;
    }

pub returns-in-Full-clause-read : goal.returns-in-Full-clause-read
returns-in-Full-clause-read g c =
    let further : c.loop-at.at ≤ c.in-Full.n = grind (arith, common_steps) in
    let read = c.in-Full.ensures in
    (more_taken _ _ _ _ _ further _ _ read.buffer_unchanged c.loop-at.invariant.taken read.taken, grind (arith, common_steps))
