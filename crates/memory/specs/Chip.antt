-- What differs from chip to chip: the uPD17132 of document 01, "The machine's record", and the uPD17120 of document 02, E1.
-- Assumes nothing.
use Rattle.std.specs.Prelude.{ℕ, Bool, true, not, ◌&&◌, List, replicate, nat_le, nat_lt, slice_set}
use Rattle.laws.specs.Every.{every}
use Rattle.memory.specs.Names.{P0E, AR3, AR2, BANK, IXH, IXM, RPH}
use Rattle.memory.specs.declared.Model.{Model}
use Rattle.memory.specs.declared.Model.TheVariants.{Upd17132, Upd17120}

pub record Chip : Type 0 where
  -- the most words a ROM may have
  pub words : ℕ
  -- the bits of the PC
  pub pc_bits : ℕ
  -- the levels of the address stack
  pub levels : ℕ
  -- the cells of data memory that are installed
  pub installed : ℕ → Bool
  -- for each address of data memory the bits that stay; the others are always 0
  pub masks : List ℕ

-- "Always 0, and 0 after a write of 1", in the paper's order; the same on every chip of the subseries (source document 000, figure 7-2)
unfoldable pub subseries_masks : List ℕ
subseries_masks =
    slice_set
    (slice_set
    (slice_set
    (slice_set
    (slice_set
    (slice_set
    (slice_set
    (replicate 128 0b1111)
    AR3 0b0000)
    BANK 0b0000)
    RPH 0b0000)
    AR2 0b0011)
    IXH 0b1000)
    IXM 0b0111)
    P0E 0b0011

abbrev pub upd17132 : Chip
upd17132 = record { words = 1024; pc_bits = 10; levels = 5; installed = λ (at : ℕ). true; masks = subseries_masks }

-- "768 words of ROM, and 40H to 6EH not installed"; PC and stack are those of the 17132 (source document 000, 3.1 and 1.1)
abbrev pub upd17120 : Chip
upd17120 =
    record {
      words = 768;
      pc_bits = 10;
      levels = 5;
      installed = λ (at : ℕ). not (nat_le 0x40 at && nat_le at 0x6E);
      masks = subseries_masks;
    }

abbrev pub chip_of : Model → Chip
chip_of Upd17132 = upd17132
chip_of Upd17120 = upd17120

-- a cell that the chip lacks; an address past 7FH is no cell
abbrev pub is_missing : Chip → ℕ → Bool
is_missing chip at = nat_lt at 128 && not (chip.installed at)

-- the chip has every cell
unfoldable pub is_whole : Chip → Bool
is_whole chip = every chip.installed 128
