use Prim.Native.Nat.{◌≤◌, ◌-◌}
use Rattle.memory.specs.Chip.{chip_of}
use lib.ListN.{length}
use Rattle.verifier.proofs.Scan.{RulesTo, WordsTo}
use Rattle.verifier.proofs.verification.verify.Given as goal

abbrev pub invariant-rules : goal.invariant-rules
invariant-rules l = RulesTo (chip_of l.fn.model) l.rom l.sheet l.word l.rule

abbrev pub invariant-words : goal.invariant-words
invariant-words l = (l.word ≤ length l.rom) × WordsTo (chip_of l.fn.model) l.rom l.sheet l.word

abbrev pub decreases-words : goal.decreases-words
decreases-words l = length l.rom - l.word
