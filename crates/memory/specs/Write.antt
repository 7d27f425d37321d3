-- The write of a cell: document 01, "Always 0, and 0 after a write of 1". An address past 7FH is no cell: a write there
-- changes nothing.
-- Assumes nothing.
use Rattle.std.specs.Prelude.{ℕ, Bool, false, cond, ◌||◌, List, [], ◌∷◌, ◌==◌, bit_and, slice_index, slice_set}
use Rattle.memory.specs.Chip.{Chip}

-- the bits that stay at an address; none where the cell is not installed
abbrev pub mask_at : Chip → ℕ → ℕ
mask_at chip at = cond (chip.installed at) (slice_index chip.masks at) 0

-- the bits of v that stay at an address
unfoldable pub kept_of : Chip → ℕ → ℕ → ℕ
kept_of chip at v = bit_and v (mask_at chip at)

-- one place changed, the rest equal
unfoldable pub write_of : Chip → List ℕ → ℕ → ℕ → List ℕ
write_of chip cells at v = slice_set cells at (kept_of chip at v)

pub record Write : Type 0 where
  pub at : ℕ
  pub value : ℕ

infix 20 ◌↤◌
abbrev pub ◌↤◌ : ℕ → ℕ → Write
at ↤ v = record { at = at; value = v }

-- writes one after the other
unfoldable pub writes_applied : Chip → List ℕ → List Write → List ℕ
writes_applied chip cells [] = cells
writes_applied chip cells (w ∷ ws) = writes_applied chip (write_of chip cells w.at w.value) ws

-- whether an address is among those written
abbrev pub touches : List Write → ℕ → Bool
touches [] k = false
touches (w ∷ ws) k = k == w.at || touches ws k
