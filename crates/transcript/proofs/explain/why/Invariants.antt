use Rattle.transcript.specs.Finding.{told_text}
use Rattle.transcript.proofs.explain.why.Given as goal

abbrev pub ghost-put_whole : goal.ghost-put_whole
ghost-put_whole a = told_text a.print.0.now
