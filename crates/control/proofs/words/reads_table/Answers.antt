use Rattle.control.specs.Flow.{reads_table}
use Rattle.control.proofs.OneWord.{movt, one_word}
use Rattle.control.proofs.words.reads_table.Goals as goal

pub returns : goal.returns
returns c = one_word reads_table 0b000_0001_0000 movt c.args.word c.ranges.word.fits
