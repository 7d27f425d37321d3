-- When the cells are in range: document 01, "a nibble above 15 .. a fixed bit set", and document 02, E1, "a missing cell not 0". A
-- cell is in range where all its bits are such as stay.
-- Assumes nothing.
use Rattle.std.specs.Prelude.{ℕ, Bool, List, replicate, ◌==◌, slice_index}
use Rattle.laws.specs.Every.{every}
use Rattle.memory.specs.Chip.{Chip}
use Rattle.memory.specs.Write.{kept_of}
use Rattle.memory.specs.declared.Memory.{Memory}

abbrev pub cell_in_range : Chip → List ℕ → ℕ → Bool
cell_in_range chip cells at = kept_of chip at (slice_index cells at) == slice_index cells at

unfoldable pub cells_in_range : Chip → List ℕ → Bool
cells_in_range chip cells = every (cell_in_range chip cells) 128

-- "Reset gives all zeros"
abbrev pub reset_memory : Memory
reset_memory = record { cells = replicate 128 0 }
