use Rattle.std.proofs.Common.{◌≡◌, length}
use Rattle.station_file.specs.Places.{proper_ranges}
use Rattle.station_file.proofs.scan.proper_ranges.Given as goal

abbrev pub invariant-loop-left : goal.invariant-loop-left
invariant-loop-left l = proper_ranges l.left ≡ proper_ranges l.bytes

abbrev pub decreases-loop-left : goal.decreases-loop-left
decreases-loop-left l = length l.left
