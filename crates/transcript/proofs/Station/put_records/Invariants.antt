use Rattle.transcript.specs.Printing.{RecordedTo}
use Rattle.transcript.proofs.Station.put_records.Given as goal

abbrev pub invariant-loop-k : goal.invariant-loop-k
invariant-loop-k l = RecordedTo l.self.rom.now l.self.inputs.now l.k l.initial.sink l.sink l.progress
