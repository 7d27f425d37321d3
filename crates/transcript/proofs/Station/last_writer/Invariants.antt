use mathlib.Core.Path.{◌≡◌}
use Rattle.transcript.specs.Finding.{found_text}
use Rattle.transcript.specs.Printing.{RecordedTo}
use Rattle.transcript.specs.Why.{answer_text, last_writer}
use Rattle.transcript.proofs.Station.last_writer.Given as goal

abbrev pub invariant-loop-k : goal.invariant-loop-k
invariant-loop-k l = record {
  recorded : RecordedTo l.self.rom.now l.self.inputs.now l.k l.initial.nowhere l.nowhere l.before;
  told : found_text l.found ≡ answer_text l.self.rom.now l.self.inputs.now l.cell (last_writer l.self.rom.now l.self.inputs.now l.cell l.k);
}
