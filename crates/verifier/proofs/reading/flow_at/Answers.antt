use mathlib.Core.Path.{◌∙◌, ap, sym}
use Rattle.isa.specs.Decode.{decode_of, entry_of, overview, columns}
use Rattle.laws.proofs.Lists.{slice_index_past}
use Rattle.control.specs.Flow.{word_flow}
use Rattle.clearance.specs.Rules.{no_word}
use Rattle.verifier.proofs.reading.flow_at.Goals as goal

pub returns-in_default : goal.returns-in_default
unfolding decode_of entry_of overview columns
returns-in_default c = sym (ap word_flow (slice_index_past c.args.rom.now c.args.word no_word c.in_default.ensures.lookup.3))

pub returns : goal.returns
returns c = c.of_word.ensures ∙ ap word_flow (c.in-Some.ensures.lookup.3.1 no_word)
