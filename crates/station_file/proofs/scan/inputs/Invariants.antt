use Rattle.std.proofs.Common.{◌≡◌, length}
use Rattle.station_file.specs.Station.{input_byte}
use Rattle.station_file.specs.Write.{every_at}
use Rattle.station_file.proofs.scan.inputs.Given as goal

abbrev pub invariant-loop-whole : goal.invariant-loop-whole
invariant-loop-whole l = every_at input_byte 0 l.left ≡ every_at input_byte 0 l.bytes

abbrev pub decreases-loop-whole : goal.decreases-loop-whole
decreases-loop-whole l = length l.left
