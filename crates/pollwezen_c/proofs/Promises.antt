-- What the contract of each export says, as a host gets it, and that it is the contract of the entry of `pollwezen`. No export has a caller in
-- Rattle, so without these lines a promise could be dropped or weakened and nothing would miss it. `pollwezen` has the same of its entries.
-- Assumes nothing.
use mathlib.Core.Path.{◌≡◌, refl}
use mathlib.Core.Logic.{◌↔◌}
use Prim.Native.Nat.{◌≤◌}
use lib.ListN.{length}
use seplogic.Ra.Ura.{Ura}
use base.Logic.{SProp, ent, sep, via, fst∗, snd∗}
use prog.Memory.{Memory}
use prog.Routine.{Routine}
use types.Logic.{Logic}
use contract.Lifetimes.{Lfts}
use contract.Monad.{Fun, fact, fact_mono}
use denote.Triple.Clauses.{AtExit}
use denote.Triple.Entry.{Args, Res}
use Rattle.machine.specs.Signals.{signals}
use Rattle.listing.specs.Rows.{decoded_row_of, encoded_row_of}
use Rattle.listing.specs.Table.{fields}
use Rattle.station_file.specs.Answers.{buffers_of, station_of}
use Rattle.station_file.specs.Read.{Read, read_of}
use Rattle.station_file.specs.Write.{Write, widen_of, write_of}
use Rattle.transcript.specs.Print.{Print, print_of}
use Rattle.transcript.specs.Transcript.{transcript_of}
use Rattle.pollwezen.specs.Lent.{lent_run, lent_run_of, lent_step, lent_step_of}
use Rattle.pollwezen.specs.Models.{model_of, ClearOn, SafeOn, reset_on, run_on, step_on, verify_on}
use Rattle.pollwezen.specs.Replies.{print_reply_of, read_reply_of, verdict_reply_of, write_reply_of}
use Rattle.pollwezen.specs.contracts.pollwezen_reset as of_reset
use Rattle.pollwezen.specs.contracts.pollwezen_step as of_step
use Rattle.pollwezen.specs.contracts.pollwezen_run as of_run
use Rattle.pollwezen.specs.contracts.pollwezen_verify as of_verify
use Rattle.pollwezen.specs.contracts.pollwezen_decode as of_decode
use Rattle.pollwezen.specs.contracts.pollwezen_encode as of_encode
use Rattle.pollwezen.specs.contracts.pollwezen_read as of_read
use Rattle.pollwezen.specs.contracts.pollwezen_write as of_write
use Rattle.pollwezen.specs.contracts.pollwezen_widen as of_widen
use Rattle.pollwezen.specs.contracts.pollwezen_transcript as of_transcript
use Rattle.pollwezen_c.specs.contracts.pollwezen_reset as reset
use Rattle.pollwezen_c.specs.contracts.pollwezen_step as step
use Rattle.pollwezen_c.specs.contracts.pollwezen_run as run
use Rattle.pollwezen_c.specs.contracts.pollwezen_verify as verify
use Rattle.pollwezen_c.specs.contracts.pollwezen_decode as decode
use Rattle.pollwezen_c.specs.contracts.pollwezen_encode as encode
use Rattle.pollwezen_c.specs.contracts.pollwezen_read as read
use Rattle.pollwezen_c.specs.contracts.pollwezen_write as write
use Rattle.pollwezen_c.specs.contracts.pollwezen_widen as widen
use Rattle.pollwezen_c.specs.contracts.pollwezen_transcript as transcript

module _ {M : Type 1} {𝓤 : Ura M} (𝓛 : Logic 𝓤) (mem : Memory → SProp 𝓤) (runs : Routine → Fun 𝓤) where
  -- of two promises the first, or the second; and what follows from one
  first : {P Q : Type 0} → ent 𝓤 (sep 𝓤 (fact 𝓤 P) (fact 𝓤 Q)) (fact 𝓤 P)
  first {P} {Q} = fst∗ 𝓤 (fact 𝓤 P) (fact 𝓤 Q)

  second : {P Q : Type 0} → ent 𝓤 (sep 𝓤 (fact 𝓤 P) (fact 𝓤 Q)) (fact 𝓤 Q)
  second {P} {Q} = snd∗ 𝓤 (fact 𝓤 P) (fact 𝓤 Q)

  follows : {P Q : Type 0} → (P → Q) → ent 𝓤 (fact 𝓤 P) (fact 𝓤 Q)
  follows {P} {Q} f = fact_mono 𝓤 P Q f

  -- of three promises the first, the second or the third
  one : {P Q R : Type 0} → ent 𝓤 (sep 𝓤 (fact 𝓤 P) (sep 𝓤 (fact 𝓤 Q) (fact 𝓤 R))) (fact 𝓤 P)
  one {P} {Q} {R} = fst∗ 𝓤 (fact 𝓤 P) (sep 𝓤 (fact 𝓤 Q) (fact 𝓤 R))

  rest : {P Q R : Type 0} → ent 𝓤 (sep 𝓤 (fact 𝓤 P) (sep 𝓤 (fact 𝓤 Q) (fact 𝓤 R))) (sep 𝓤 (fact 𝓤 Q) (fact 𝓤 R))
  rest {P} {Q} {R} = snd∗ 𝓤 (fact 𝓤 P) (sep 𝓤 (fact 𝓤 Q) (fact 𝓤 R))

  two : {P Q R : Type 0} → ent 𝓤 (sep 𝓤 (fact 𝓤 P) (sep 𝓤 (fact 𝓤 Q) (fact 𝓤 R))) (fact 𝓤 Q)
  two {P} {Q} {R} = via 𝓤 (sep 𝓤 (fact 𝓤 Q) (fact 𝓤 R)) rest first

  three : {P Q R : Type 0} → ent 𝓤 (sep 𝓤 (fact 𝓤 P) (sep 𝓤 (fact 𝓤 Q) (fact 𝓤 R))) (fact 𝓤 R)
  three {P} {Q} {R} = via 𝓤 (sep 𝓤 (fact 𝓤 Q) (fact 𝓤 R)) rest second

  -- a are the arguments, r the result, e the arguments at exit
  module _ (κs : Lfts 1) (a : Args reset.signature κs) (r : Res reset.signature κs) (e : AtExit reset.ended κs) where
    pub reset_leaves : ent 𝓤 ((reset.clauses 𝓛 mem runs κs a).ensures tt r e) (fact 𝓤 (lent_step e.1.0.now r ≡ lent_step_of (reset_on (model_of a.0) a.1.0.now)))
    reset_leaves = follows (λ p. p)

  module _ (κs : Lfts 2) (a : Args step.signature κs) (r : Res step.signature κs) (e : AtExit step.ended κs) where
    abbrev Step : SProp 𝓤
    Step = (step.clauses 𝓛 mem runs κs a).ensures tt r e

    pub step_leaves : ent 𝓤 Step (fact 𝓤 (lent_step e.1.1.0.now r ≡ lent_step_of (step_on (model_of a.0) a.1.0.now (signals a.1.1.1.0 a.1.1.1.1.0) a.1.1.0.now)))
    step_leaves = first

    pub step_keeps : ent 𝓤 Step (fact 𝓤 ((r ≡ 0 → ⊥) → (r ≡ 255 → ⊥) → e.1.1.0.now ≡ a.1.1.0.now))
    step_keeps = second

  module _ (κs : Lfts 2) (a : Args run.signature κs) (r : Res run.signature κs) (e : AtExit run.ended κs) where
    pub run_leaves : ent 𝓤 ((run.clauses 𝓛 mem runs κs a).ensures tt r e)
        (fact 𝓤 (lent_run e.1.1.0.now r ≡ lent_run_of (run_on (model_of a.0) a.1.0.now (signals a.1.1.1.0 a.1.1.1.1.0) a.1.1.1.1.1.0 a.1.1.0.now)))
    run_leaves = follows (λ p. p)

  module _ (κs : Lfts 2) (a : Args verify.signature κs) (r : Res verify.signature κs) (e : AtExit verify.ended κs) where
    abbrev Verify : SProp 𝓤
    Verify = (verify.clauses 𝓛 mem runs κs a).ensures tt r e

    pub verify_answers : ent 𝓤 Verify (fact 𝓤 (r ≡ verdict_reply_of (verify_on (model_of a.0) a.1.0.now a.1.1.0.now)))
    verify_answers = one

    pub verify_clears : ent 𝓤 Verify (fact 𝓤 ((r.number ≡ 0) ↔ ClearOn (model_of a.0) a.1.0.now a.1.1.0.now))
    verify_clears = two

    pub verify_saves : ent 𝓤 Verify (fact 𝓤 (r.number ≡ 0 → SafeOn (model_of a.0) a.1.0.now a.1.1.0.now))
    verify_saves = three

  module _ (κs : Lfts 0) (a : Args decode.signature κs) (r : Res decode.signature κs) (e : AtExit decode.ended κs) where
    pub decode_answers : ent 𝓤 ((decode.clauses 𝓛 mem runs κs a).ensures tt r e) (fact 𝓤 (r ≡ decoded_row_of a.0))
    decode_answers = follows (λ p. p)

  module _ (κs : Lfts 0) (a : Args encode.signature κs) (r : Res encode.signature κs) (e : AtExit encode.ended κs) where
    pub encode_answers : ent 𝓤 ((encode.clauses 𝓛 mem runs κs a).ensures tt r e)
        (fact 𝓤 (r ≡ encoded_row_of a.0 (fields a.1.0 a.1.1.0 a.1.1.1.0)))
    encode_answers = follows (λ p. p)

  module _ (κs : Lfts 4) (a : Args read.signature κs) (r : Res read.signature κs) (e : AtExit read.ended κs) where
    abbrev reads : Read
    reads = read_of a.0.now (buffers_of a.1.0.now a.1.1.0.now a.1.1.1.0.now)

    abbrev Read-file : SProp 𝓤
    Read-file = (read.clauses 𝓛 mem runs κs a).ensures tt r e

    pub read_answers : ent 𝓤 Read-file (fact 𝓤 (r ≡ read_reply_of reads.reply))
    read_answers = first

    pub read_leaves : ent 𝓤 Read-file (fact 𝓤 (buffers_of e.1.0.now e.1.1.0.now e.1.1.1.0.now ≡ reads.buffers))
    read_leaves = second

  module _ (κs : Lfts 4) (a : Args write.signature κs) (r : Res write.signature κs) (e : AtExit write.ended κs) where
    abbrev writes : Write
    writes = write_of (station_of a.0.now a.1.0.now a.1.1.0.now) a.1.1.1.0.now

    abbrev Write-file : SProp 𝓤
    Write-file = (write.clauses 𝓛 mem runs κs a).ensures tt r e

    pub write_answers : ent 𝓤 Write-file (fact 𝓤 (r ≡ write_reply_of writes.reply))
    write_answers = first

    pub write_leaves : ent 𝓤 Write-file (fact 𝓤 (e.1.1.1.0.now ≡ writes.out))
    write_leaves = second

  module _ (κs : Lfts 2) (a : Args widen.signature κs) (r : Res widen.signature κs) (e : AtExit widen.ended κs) where
    abbrev widens : Write
    widens = widen_of a.0.now a.1.0.now

    abbrev Widen : SProp 𝓤
    Widen = (widen.clauses 𝓛 mem runs κs a).ensures tt r e

    pub widen_answers : ent 𝓤 Widen (fact 𝓤 (r ≡ write_reply_of widens.reply))
    widen_answers = first

    pub widen_leaves : ent 𝓤 Widen (fact 𝓤 (e.1.0.now ≡ widens.out))
    widen_leaves = second

  module _ (κs : Lfts 2) (a : Args transcript.signature κs) (r : Res transcript.signature κs) (e : AtExit transcript.ended κs) where
    abbrev prints : Print
    prints = print_of a.0.now a.1.0.now

    abbrev Transcript : SProp 𝓤
    Transcript = (transcript.clauses 𝓛 mem runs κs a).ensures tt r e

    pub transcript_answers : ent 𝓤 Transcript (fact 𝓤 (r ≡ print_reply_of prints.reply))
    transcript_answers = one

    pub transcript_leaves : ent 𝓤 Transcript (fact 𝓤 (e.1.0.now ≡ prints.out))
    transcript_leaves = two

    pub transcript_fits : ent 𝓤 Transcript (fact 𝓤 (length (transcript_of a.0.now) ≤ 100000))
    transcript_fits = three

  -- each export's contract is its entry's
  pub reset_promises : (κs : Lfts 1) (a : Args reset.signature κs) → reset.clauses 𝓛 mem runs κs a ≡ of_reset.clauses 𝓛 mem runs κs a
  reset_promises κs a = refl

  pub step_promises : (κs : Lfts 2) (a : Args step.signature κs) → step.clauses 𝓛 mem runs κs a ≡ of_step.clauses 𝓛 mem runs κs a
  step_promises κs a = refl

  pub run_promises : (κs : Lfts 2) (a : Args run.signature κs) → run.clauses 𝓛 mem runs κs a ≡ of_run.clauses 𝓛 mem runs κs a
  run_promises κs a = refl

  pub verify_promises : (κs : Lfts 2) (a : Args verify.signature κs) → verify.clauses 𝓛 mem runs κs a ≡ of_verify.clauses 𝓛 mem runs κs a
  verify_promises κs a = refl

  pub decode_promises : (κs : Lfts 0) (a : Args decode.signature κs) → decode.clauses 𝓛 mem runs κs a ≡ of_decode.clauses 𝓛 mem runs κs a
  decode_promises κs a = refl

  pub encode_promises : (κs : Lfts 0) (a : Args encode.signature κs) → encode.clauses 𝓛 mem runs κs a ≡ of_encode.clauses 𝓛 mem runs κs a
  encode_promises κs a = refl

  pub read_promises : (κs : Lfts 4) (a : Args read.signature κs) → read.clauses 𝓛 mem runs κs a ≡ of_read.clauses 𝓛 mem runs κs a
  read_promises κs a = refl

  pub write_promises : (κs : Lfts 4) (a : Args write.signature κs) → write.clauses 𝓛 mem runs κs a ≡ of_write.clauses 𝓛 mem runs κs a
  write_promises κs a = refl

  pub widen_promises : (κs : Lfts 2) (a : Args widen.signature κs) → widen.clauses 𝓛 mem runs κs a ≡ of_widen.clauses 𝓛 mem runs κs a
  widen_promises κs a = refl

  pub transcript_promises : (κs : Lfts 2) (a : Args transcript.signature κs) → transcript.clauses 𝓛 mem runs κs a ≡ of_transcript.clauses 𝓛 mem runs κs a
  transcript_promises κs a = refl
