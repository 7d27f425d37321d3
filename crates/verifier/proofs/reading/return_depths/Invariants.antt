use mathlib.Core.Path.{◌≡◌}
use lib.ListN.{length}
use Rattle.memory.specs.Chip.{chip_of}
use Rattle.verifier.proofs.Depths.{Seen}
use Rattle.verifier.proofs.reading.return_depths.Given as goal

abbrev pub invariant-loop-word : goal.invariant-loop-word
invariant-loop-word l = (length l.depths ≡ 6) × Seen (chip_of l.model) l.rom l.sheet l.word l.depths
