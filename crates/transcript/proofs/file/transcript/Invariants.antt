use Rattle.transcript.specs.Transcript.{transcript_of}
use Rattle.transcript.proofs.file.transcript.Given as goal

abbrev pub ghost-put_whole : goal.ghost-put_whole
ghost-put_whole a = transcript_of a.print.0.now
