-- Which depths some of many entries hold: a table with a place for each depth, which has the first depth from there up that one of
-- them holds, or 15.
-- Assumes nothing.
use Rattle.std.specs.Prelude.{ℕ, zero, suc, min, max, Bool, cond, ◌&&◌, List, length, nat_le, nat_lt, slice_index_or, slice_set}
use Rattle.sheet.specs.Entry.{unreached, reached}
use Rattle.sheet.specs.declared.Entry.{Entry}

-- the first depth from d up, of the one so far and those that an entry holds
abbrev pub nearest : Entry → ℕ → ℕ → ℕ
nearest e d first = cond (nat_le d e.highest) (min first (max d e.lowest)) first

-- so at each depth below k
abbrev pub nearest_below : Entry → ℕ → List ℕ → List ℕ
nearest_below e zero table = table
nearest_below e (suc k) table = slice_set (nearest_below e k table) k (nearest e k (slice_index_or table k unreached))

module _ (most : ℕ) where
  -- the depths of one entry more
  unfoldable pub with_depths : List ℕ → Entry → List ℕ
  with_depths table e = cond (reached most e) (nearest_below e (length table) table) table

  -- an entry shares a depth with some entry of the table; a depth past the table's end has no place
  unfoldable pub shares_any : List ℕ → Entry → Bool
  shares_any table e = reached most e && (nat_lt e.lowest (length table) && nat_le (slice_index_or table e.lowest unreached) e.highest)
