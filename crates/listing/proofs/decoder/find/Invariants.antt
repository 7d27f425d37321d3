use Rattle.laws.proofs.First.{Clear}
use Rattle.listing.proofs.Search.{absent}
use Rattle.listing.proofs.decoder.find.Given as goal

abbrev pub invariant-loop-row : goal.invariant-loop-row
invariant-loop-row l = Clear (absent l.word) 0 l.row
