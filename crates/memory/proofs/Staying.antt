-- Which bits stay: all of a nibble, but at seven cells.
-- Assumes nothing.
use Rattle.std.proofs.Common.{◌≡◌, ℕ, ◌%◌, ◌<◌, Bool, true, false, cond, ◌||◌, eqb, ltb, get_or, sym, refl, ap, ◌∙◌, arith, eqb→eq, ltb-true, ne_eqb}
use lib.Bits.{bit_and, and_mask, and_le_r}
use Rattle.laws.proofs.Every.{every_at_lem, holds}
use Rattle.memory.specs.Chip.{chip_of, subseries_masks}
use Rattle.memory.specs.Names.{P0E, AR3, AR2, BANK, IXH, IXM, RPH}
use Rattle.memory.specs.Write.{mask_at, kept_of}
use Rattle.memory.specs.declared.Model.{Model}
use Rattle.memory.specs.declared.Model.TheVariants.{Upd17132, Upd17120}

-- one of the seven, or all of a nibble stays
listed : ℕ → Bool
listed k = eqb k AR3 || (eqb k BANK || (eqb k RPH || (eqb k AR2 || (eqb k IXH || (eqb k IXM || (eqb k P0E || eqb (get_or subseries_masks k 0) 0b1111))))))

pub whole : (k : ℕ) → k < 128 → (k ≡ AR3 → ⊥) → (k ≡ BANK → ⊥) → (k ≡ RPH → ⊥) → (k ≡ AR2 → ⊥) → (k ≡ IXH → ⊥)
    → (k ≡ IXM → ⊥) → (k ≡ P0E → ⊥) → get_or subseries_masks k 0 ≡ 0b1111
unfolding listed subseries_masks
whole k h ar3 bank rph ar2 ixh ixm p0e =
    eqb→eq _ _
    (rw (ne_eqb k AR3 ar3, ne_eqb k BANK bank, ne_eqb k RPH rph, ne_eqb k AR2 ar2, ne_eqb k IXH ixh, ne_eqb k IXM ixm, ne_eqb k P0E p0e) at
    (every_at_lem listed 128 tt k h))

-- the same bits on every model, where the cell is installed
pub mask_of : (model : Model) (k : ℕ) → mask_at (chip_of model) k ≡ cond ((chip_of model).installed k) (get_or subseries_masks k 0) 0
mask_of Upd17132 k = refl
mask_of Upd17120 k = refl

narrow : ℕ → Bool
narrow k = ltb (get_or subseries_masks k 0) 16

small : (k : ℕ) (b : Bool) → k < 128 → cond b (get_or subseries_masks k 0) 0 < 16
unfolding narrow subseries_masks
small k true h = ltb-true _ 16 (holds (every_at_lem narrow 128 tt k h))
small k false h = omega arith

-- nothing above a nibble stays
pub kept_nibble : (model : Model) (k v : ℕ) → k < 128 → kept_of (chip_of model) k v ≡ v → v < 16
unfolding kept_of
kept_nibble model k v h e =
    let mask = cond ((chip_of model).installed k) (get_or subseries_masks k 0) 0 in
    omega (arith, sym e ∙ ap (bit_and v) (mask_of model k), and_le_r v mask, small k ((chip_of model).installed k) h)

-- where all of a nibble stays, a nibble does
pub nibble_kept : (model : Model) (k v : ℕ) → (chip_of model).installed k ≡ true → get_or subseries_masks k 0 ≡ 0b1111 → v < 16
    → kept_of (chip_of model) k v ≡ v
unfolding kept_of
nibble_kept model k v i e h = let low : v % 16 ≡ v = omega arith in rw (mask_of model k, i, e) (and_mask v 4 ∙ low)
