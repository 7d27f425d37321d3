use Rattle.transcript.proofs.Bytes.{chunk_input}
use Rattle.transcript.proofs.Turns.{begins, goes_on}
use native.Mathlib.Omega.{arith}
use Prim.Native.Nat.{◌/◌}
use lib.ListN.{length}
use Rattle.transcript.proofs.Station.put_records.Goals as goal

pub loop-k-init : goal.loop-k-init
loop-k-init c = rw c.begun-progress.ensures (begins c.args.self.now.rom.now c.args.self.now.inputs.now)

pub loop-k-preserved : goal.loop-k-preserved
loop-k-preserved c =
    let s = c.args.self.now in
    let l = c.loop-k in
    let input = rw c.as_chunks.ensures.front at c.input_of.ensures in
    goes_on s.rom.now s.inputs.now l.k l.progress _ l.invariant (rw (input, chunk_input l.k (length s.inputs.now / 11) s.inputs.now (omega arith)) at c.put_record-progress.ensures)
