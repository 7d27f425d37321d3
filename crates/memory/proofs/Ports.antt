-- An address past 7FH is no cell, and reads 0.
-- Assumes nothing.
use Rattle.std.proofs.Common.{◌≡◌, ℕ, ◌≤◌, List, le-ltb}
use Rattle.memory.specs.Cells.{cell_at}

pub no_cell_lem : (cells : List ℕ) (at : ℕ) → 128 ≤ at → 0 ≡ cell_at cells at
no_cell_lem cells at h = simp (le-ltb at 128 h)
