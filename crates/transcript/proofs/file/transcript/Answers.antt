use mathlib.Core.Path.{◌∙◌}
use Rattle.transcript.proofs.Texts.{print_same}
use Rattle.transcript.proofs.file.transcript.Goals as goal

pub returns-clause-printed : goal.returns-clause-printed
returns-clause-printed c = c.put_whole.ensures.printed ∙ print_same _ _
