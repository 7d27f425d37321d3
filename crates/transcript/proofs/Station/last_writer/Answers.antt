use mathlib.Core.Path.{◌≡◌, ◌∙◌, ap, refl}
use mathlib.Core.List.{List, []}
use Prim.Native.Nat.{ℕ, ◌/◌, ◌<◌}
use native.Mathlib.Omega.{arith}
use lib.ListN.{get_or, length, length-take}
use Rattle.std.proofs.lemmas.List.{get_or-take}
use Rattle.transcript.specs.Printing.{input_at}
use Rattle.transcript.specs.Why.{last_writer}
use Rattle.transcript.proofs.Bytes.{chunk_input}
use Rattle.transcript.proofs.Turns.{begins, goes_on}
use Rattle.transcript.proofs.Writers.{one_newer}
use Rattle.transcript.proofs.Station.last_writer.Goals as goal
use Rattle.transcript.proofs.Station.last_writer.Goals.{then-wrote, else-wrote}

pub loop-k-init : goal.loop-k-init
unfolding last_writer
loop-k-init c = record { recorded = rw c.begun-before.ensures (begins c.args.self.now.rom.now c.args.self.now.inputs.now); told = refl }

pub loop-k-preserved : goal.loop-k-preserved
loop-k-preserved c =
    let a = c.args in
    let s = a.self.now in
    let l = c.loop-k in
    let i = l.invariant in
    let here : l.k < a.count = omega (arith, c.loop-k-test.true, length-take a.count c.as_chunks.result.0.now) in
    let input : c.input_of-input.result ≡ input_at l.k s.inputs.now
    = c.input_of-input.ensures
    ∙ ap (input_at 0) (get_or-take a.count c.as_chunks.result.0.now l.k [] here ∙ ap (λ (rs : List (List ℕ)). get_or rs l.k []) c.as_chunks.ensures.front)
    ∙ chunk_input l.k (length s.inputs.now / 11) s.inputs.now (omega (arith, c.requires.0)) in
    let step = rw input at c.put_record-after.ensures in
    let recorded = goes_on s.rom.now s.inputs.now l.k l.before _ i.recorded step in
    let told = rw (← input) at (one_newer s.rom.now s.inputs.now a.cell l.k l.before _ i.recorded step l.found i.told) in
    elim c.if-wrote.branch [
      | then-wrote w ↦ record { recorded = rw w.before-is recorded; told = rw (w.found-is, w.writer.ensures) (rw (← w.if-wrote.ensures) at told) }
      | else-wrote w ↦ record { recorded = rw w.before-is recorded; told = rw w.found-is (rw (← w.if-wrote.ensures) at told) }
    ]
