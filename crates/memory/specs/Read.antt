-- The read of a cell: document 01, "Reading a port bit gives the pin where its direction is 0 and the stored bit where it
-- is 1".
-- Assumes nothing.
use Rattle.std.specs.Prelude.{ℕ, cond, List, ◌==◌, bit_and, bit_or, bit_xor, slice_index}
use Rattle.memory.specs.Cells.{cell_at}
use Rattle.memory.specs.Chip.{Chip}
use Rattle.memory.specs.Names.{P0A, P0B, P0C, P0D, P0E}
use Rattle.memory.specs.Write.{kept_of}

-- bit by bit the pin where the direction is 0 and the stored bit where it is 1
unfoldable pub mix_of : ℕ → ℕ → ℕ → ℕ
mix_of pin direction stored = bit_or (bit_and pin (bit_xor direction 0b1111)) (bit_and stored direction)

-- the port with this number in the input record; a bit that is always 0 reads 0 ("P0E's two high bits read 0")
unfoldable pub port_of : Chip → List ℕ → List ℕ → List ℕ → ℕ → ℕ → ℕ
port_of chip cells pins directions at k =
    kept_of chip at (mix_of (slice_index pins k) (slice_index directions k) (cell_at cells at))

-- the five ports by the pins, in the order of the input record; elsewhere the cell
unfoldable pub read_of : Chip → List ℕ → List ℕ → List ℕ → ℕ → ℕ
read_of chip cells pins directions at =
    let port = port_of chip cells pins directions at in
    cond (at == P0A)
    (port 0)
    (cond (at == P0B)
    (port 1)
    (cond (at == P0C)
    (port 2)
    (cond (at == P0D)
    (port 3)
    (cond (at == P0E)
    (port 4)
    (cell_at cells at)))))
