-- The parts of the range test of the cells: those that have bits that are always 0 are tried by name, and those that the chip lacks
-- by the model.
-- Assumes nothing.
use Rattle.std.specs.Prelude.{Bool, ◌&&◌, ◌||◌, List, ℕ, eqb, get_or}
use Rattle.memory.specs.Chip.{Chip}
use Rattle.memory.specs.Names.{P0E, AR3, AR2, BANK, IXH, IXM, RPH}
use Rattle.memory.specs.Range.{cell_in_range}

-- the cells that have bits that are always 0, in document 01's order
abbrev pub fixed_in_range : Chip → List ℕ → Bool
fixed_in_range chip cells =
    let fits = cell_in_range chip cells in
    fits AR3 && (fits BANK && (fits RPH && (fits AR2 && (fits IXH && (fits IXM && fits P0E)))))

-- a cell that is not installed is 0
abbrev pub empty_if_missing : Chip → List ℕ → ℕ → Bool
empty_if_missing chip cells at = chip.installed at || eqb (get_or cells at 0) 0
