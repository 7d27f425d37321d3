-- What writes do and what they leave, on every chip: document 02, E1, "The memory rules are proved once over the installed range".
-- Proved in proofs/Writes.antt.
-- Assumes nothing.
use Rattle.std.specs.Prelude.{◌≡◌, ℕ, ◌<◌, ◌≤◌, true, false, List, length, ◌≢◌, bit_and, slice_index}
use Rattle.memory.specs.Chip.{Chip, is_missing}
use Rattle.memory.specs.Range.{cells_in_range}
use Rattle.memory.specs.Write.{Write, kept_of, write_of, writes_applied, touches}

pub record WriteLaws (chip : Chip) (cells : List ℕ) : Type 0 where
  -- the place that is written holds the bits that stay
  pub same : (at v : ℕ) → at < length cells → slice_index (write_of chip cells at v) at ≡ kept_of chip at v
  -- which are those of the chip's fixed bits where the cell is installed
  pub stored : (at v : ℕ) → at < length cells → chip.installed at ≡ true → slice_index (write_of chip cells at v) at ≡ bit_and v (slice_index chip.masks at)
  -- every other place is as it was
  pub other : (at v k : ℕ) → (k ≢ at) → slice_index (write_of chip cells at v) k ≡ slice_index cells k
  -- past the last cell a write changes nothing
  pub past : (at v : ℕ) → length cells ≤ at → write_of chip cells at v ≡ cells
  pub untouched : (ws : List Write) (k : ℕ) → touches ws k ≡ false → slice_index (writes_applied chip cells ws) k ≡ slice_index cells k
  -- cells in range stay in range, whatever is written
  pub ranged : (ws : List Write) → cells_in_range chip cells ≡ true → cells_in_range chip (writes_applied chip cells ws) ≡ true
  -- in range a missing cell is 0, and stays so
  pub missing : (k : ℕ) → is_missing chip k ≡ true → cells_in_range chip cells ≡ true → slice_index cells k ≡ 0
  pub stays_missing : (ws : List Write) (k : ℕ) → is_missing chip k ≡ true → cells_in_range chip cells ≡ true
      → slice_index (writes_applied chip cells ws) k ≡ 0
  -- they are as many as they were
  pub counted : (ws : List Write) → length (writes_applied chip cells ws) ≡ length cells
