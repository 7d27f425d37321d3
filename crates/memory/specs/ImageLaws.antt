-- The port image shows each port in bits of its own, and a write moves only those of its port. Proved in proofs/Images.antt.
-- Assumes nothing.
use Rattle.std.specs.Prelude.{◌≡◌, ℕ, ◌^◌, ◌<◌, List, length, ◌≢◌, slice_index}
use Rattle.memory.specs.Chip.{Chip}
use Rattle.memory.specs.Image.{image_of, port_at, bits_of}
use Rattle.memory.specs.Write.{kept_of, write_of}

-- proved of cells in range, as those after a write of them are again
pub record ImageLaws (chip : Chip) (cells : List ℕ) : Type 0 where
  -- each port's bits are what its cell holds, and there are 18 bits
  pub shown : (k : ℕ) → k < 5 → bits_of k (image_of cells) ≡ slice_index cells (port_at k)
  pub narrow : image_of cells < 2 ^ 18
  -- a write to a port puts what stays into that port's bits
  pub own : (k v : ℕ) → k < 5 → port_at k < length cells → bits_of k (image_of (write_of chip cells (port_at k) v)) ≡ kept_of chip (port_at k) v
  -- every other port's bits are as they were
  pub other : (k at v : ℕ) → k < 5 → (port_at k ≢ at) → bits_of k (image_of (write_of chip cells at v)) ≡ bits_of k (image_of cells)
  -- a write to no port leaves the image
  pub elsewhere : (at v : ℕ) → ((k : ℕ) → k < 5 → port_at k ≢ at) → image_of (write_of chip cells at v) ≡ image_of cells
