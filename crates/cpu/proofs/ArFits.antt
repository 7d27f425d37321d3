-- AR has ten bits on every model: 74H is 0 and 75H has two.
-- Assumes nothing.
use mathlib.Core.Path.{◌≡◌}
use mathlib.Core.Bool.{true}
use mathlib.Core.List.{List}
use Prim.Native.Nat.{ℕ, ◌≤◌, ◌<◌}
use native.Mathlib.Omega.{arith}
use lib.Bits.{bit_and, and_le_r}
use lib.Dec.{eqb→eq, lit<}
use lib.ListN.{get_or}
use Rattle.laws.proofs.Every.{every_at_lem, passed}
use Rattle.memory.specs.Chip.{Chip, chip_of, subseries_masks}
use Rattle.memory.specs.Names.{AR3, AR2}
use Rattle.memory.specs.Range.{cell_in_range, cells_in_range}
use Rattle.memory.specs.Registers.{ar_of}
use Rattle.memory.specs.Write.{mask_at, kept_of}
use Rattle.memory.specs.declared.Model.{Model}
use Rattle.memory.specs.declared.Model.TheVariants.{Upd17132, Upd17120}
use Rattle.cpu.proofs.Ranged.{ArFits}

-- a cell in range is at most its mask
at_most : (chip : Chip) (cells : List ℕ) (at : ℕ) → at < 128 → cells_in_range chip cells ≡ true → get_or cells at 0 ≤ mask_at chip at
unfolding cells_in_range kept_of
at_most chip cells at h e =
    let kept : bit_and (get_or cells at 0) (mask_at chip at) ≡ get_or cells at 0
    = eqb→eq _ _ (every_at_lem (cell_in_range chip cells) 128 (passed e) at h) in
    omega (arith, kept, and_le_r (get_or cells at 0) (mask_at chip at))

pub ar_fits : (model : Model) → ArFits (chip_of model)
unfolding ar_of subseries_masks
ar_fits Upd17132 cells e =
    let high : get_or cells AR3 0 ≤ 0 = at_most (chip_of Upd17132) cells AR3 (lit< tt) e in
    let low : get_or cells AR2 0 ≤ 3 = at_most (chip_of Upd17132) cells AR2 (lit< tt) e in
    omega arith
ar_fits Upd17120 cells e =
    let high : get_or cells AR3 0 ≤ 0 = at_most (chip_of Upd17120) cells AR3 (lit< tt) e in
    let low : get_or cells AR2 0 ≤ 3 = at_most (chip_of Upd17120) cells AR2 (lit< tt) e in
    omega arith
