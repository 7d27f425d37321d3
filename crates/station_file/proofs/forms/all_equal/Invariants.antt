use Rattle.std.proofs.Common.{◌≡◌, length}
use Rattle.station_file.specs.Forms.{all_equal}
use Rattle.station_file.proofs.forms.all_equal.Given as goal

abbrev pub invariant-loop-left : goal.invariant-loop-left
invariant-loop-left l = all_equal l.left ≡ all_equal l.sheet

abbrev pub decreases-loop-left : goal.decreases-loop-left
decreases-loop-left l = length l.left
