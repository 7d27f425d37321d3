use mathlib.Core.Path.{◌∙◌, ap}
use native.Mathlib.Omega.{arith}
use Rattle.station_file.specs.Forms.{load_of}
use Rattle.transcript.specs.Transcript.{station_text, transcript_of}
use Rattle.transcript.specs.Why.{refusal_line}
use Rattle.transcript.proofs.Parsed.{told_same}
use Rattle.transcript.proofs.Puts.{bounded, reworded}
use Rattle.transcript.proofs.file.put_file.Goals as goal

pub returns-in-Ok : goal.returns-in-Ok
unfolding transcript_of
returns-in-Ok c = reworded (c.in-Ok.ensures station_text ∙ told_same (load_of c.args.file.now)) c.put_text.ensures

pub returns-in-Err : goal.returns-in-Err
unfolding transcript_of
returns-in-Err c =
    bounded 100000 (omega arith)
    (reworded (ap refusal_line c.from.ensures ∙ c.in-Err.ensures station_text ∙ told_same (load_of c.args.file.now)) c.put_bad_file.ensures)
