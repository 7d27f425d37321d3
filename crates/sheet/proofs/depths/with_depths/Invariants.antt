use Rattle.std.proofs.Common.{◌≡◌, ◌≤◌}
use Rattle.sheet.specs.Depths.{nearest_below}
-- the depths that were passed are those of one entry more
use Rattle.sheet.proofs.depths.with_depths.Given as goal

abbrev pub invariant-loop-depth : goal.invariant-loop-depth
invariant-loop-depth l = (l.depth ≤ 6) × (l.first-items ≡ nearest_below l.entry l.depth l.fn.table)
