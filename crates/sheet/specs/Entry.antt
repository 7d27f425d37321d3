-- An entry of a level sheet, in the words that the rules use: document 01, "Clearance rules", and document 02, E5: "An entry becomes
-- a lowest and a highest level". A level is 0 to 5, and 15 15 stands for never reached; 5 is the number of levels of the chip's stack,
-- and the words take that number.
-- Assumes nothing.
use Rattle.std.specs.Prelude.{ℕ, ◌+◌, ◌*◌, Bool, ◌&&◌, ◌||◌, List, ◌==◌, nat_le, slice_index_or}
use Rattle.laws.specs.Every.{some}
use Rattle.laws.specs.Wrap.{wrap_next}
use Rattle.sheet.specs.declared.Entry.{Entry}

abbrev pub unreached : ℕ
unreached = 15

-- "two bytes per sheet entry", the lowest level first. Past the sheet's end every byte is 15: never reached
unfoldable pub entry_at : List ℕ → ℕ → Entry
entry_at sheet w = record { lowest = slice_index_or sheet (2 * w) unreached; highest = slice_index_or sheet (2 * w + 1) unreached }

-- "lowest equal to highest"
abbrev pub single : ℕ → Entry
single b = record { lowest = b; highest = b }

module _ (most : ℕ) where
  -- "A word is reached if its entry is 0 to 5", and "an entry that breaks rule 2 is not reached"
  unfoldable pub reached : Entry → Bool
  reached e = nat_le e.lowest e.highest && nat_le e.highest most

  -- rule 2: both 0 to 5 and the lowest not above the highest, or 15 15
  unfoldable pub proper : Entry → Bool
  proper e = reached e || (e.lowest == unreached && e.highest == unreached)

  -- so many calls may be open there
  unfoldable pub holds : Entry → ℕ → Bool
  holds e d = reached e && (nat_le e.lowest d && nat_le d e.highest)

  -- e is reached, and holds every depth of f, which is a range
  unfoldable pub covers : Entry → Entry → Bool
  covers e f = reached e && (nat_le e.lowest f.lowest && nat_le f.highest e.highest)

  -- some depth is held by both
  unfoldable pub shares : Entry → Entry → Bool
  shares e f = some (λ (d : ℕ). holds e d && holds f d) (most + 1)

-- one call more
unfoldable pub raised : Entry → Entry
raised e = record { lowest = e.lowest + 1; highest = e.highest + 1 }

-- the same on bytes, where 255 goes on at 0
unfoldable pub raised_bytes : Entry → Entry
raised_bytes e = record { lowest = wrap_next 8 e.lowest; highest = wrap_next 8 e.highest }

-- bounds of the depths that an entry holds
unfoldable pub at_most : ℕ → Entry → Bool
at_most k e = nat_le e.highest k

unfoldable pub at_least : ℕ → Entry → Bool
at_least k e = nat_le k e.lowest
