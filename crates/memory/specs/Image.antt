-- The port image: document 02, E6, "P0A in bits 0 to 3, then P0B, P0C, P0D, and P0E's two bits on top".
-- Assumes nothing.
use Rattle.std.specs.Prelude.{ℕ, ◌+◌, ◌*◌, ◌/◌, ◌%◌, ◌^◌, List, [], ◌∷◌, slice_index}
use Rattle.memory.specs.Names.{P0A, P0B, P0C, P0D, P0E}

-- of the stored nibbles alone: directions, pins and the timer's output play no part
unfoldable pub image_of : List ℕ → ℕ
image_of cells =
    slice_index cells P0A + slice_index cells P0B * 2 ^ 4 + slice_index cells P0C * 2 ^ 8 + slice_index cells P0D * 2 ^ 12 + slice_index cells P0E * 2 ^ 16

-- the ports in the image's order
abbrev pub ports : List ℕ
ports = P0A ∷ P0B ∷ P0C ∷ P0D ∷ P0E ∷ []

abbrev pub port_at : ℕ → ℕ
port_at k = slice_index ports k

-- the four bits of a port, by its place in that order
abbrev pub bits_of : ℕ → ℕ → ℕ
bits_of k image = image / 2 ^ (4 * k) % 2 ^ 4
