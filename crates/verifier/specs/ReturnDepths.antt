-- The table that answers rule 5's "some reached RETSK".
-- Assumes nothing.
use Rattle.std.specs.Prelude.{◌≡◌, List, ℕ}
use Rattle.memory.specs.Chip.{Chip}
use Rattle.sheet.specs.Depths.{shares_any}
use Rattle.sheet.specs.declared.Entry.{Entry}
use Rattle.clearance.specs.Rules.{skip_returns}

-- of every entry it tells whether a reached RETSK shares a depth with it
abbrev pub ReturnDepths : Chip → List ℕ → List ℕ → List ℕ → Type 0
ReturnDepths chip rom sheet table = (e : Entry) → shares_any chip.levels table e ≡ skip_returns chip rom sheet e
