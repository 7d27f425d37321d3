use Rattle.std.proofs.Common.{◌≤◌, arith}
use Rattle.std.proofs.lemmas.Grind.{common_steps}
use Rattle.streams.proofs.Parts.{more_sent}
use Rattle.streams.proofs.writing.write_all.Goals as goal

pub loop-at-preserved : goal.loop-at-preserved
loop-at-preserved g c =
    let further : c.loop-at.at ≤ c.in-Further.next = grind (arith, common_steps) in
    record {
      in_range = grind (arith, common_steps);
      sent = more_sent _ _ _ _ _ further _ c.loop-at.invariant.sent c.in-Further.ensures.sent;
    }
