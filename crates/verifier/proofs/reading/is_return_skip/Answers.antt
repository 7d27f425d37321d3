use Rattle.verifier.proofs.OneReturn.{one_word}
use Rattle.verifier.proofs.reading.is_return_skip.Goals as goal

pub returns : goal.returns
returns c = one_word c.args.word c.ranges.word.fits
