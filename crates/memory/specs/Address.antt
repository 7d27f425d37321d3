-- Effective addresses: document 01, "Addresses".
-- Assumes nothing.
use Rattle.std.specs.Prelude.{ℕ, ◌+◌, ◌*◌, ◌/◌, ◌%◌, cond, List, bit_or}
use Rattle.memory.specs.Cells.{cell_at, nibble_at, is_set, place}
use Rattle.memory.specs.Names.{IXH, IXM, IXL, RPL, PSW, IXE, MPE}

-- the low three bits of 7BH: IX's row, and the memory pointer's
abbrev pub row_of : List ℕ → ℕ
row_of cells = cell_at cells IXM % 8

-- IX: row from 7BH's low three bits, column from 7CH
unfoldable pub ix_of : List ℕ → ℕ
ix_of cells = row_of cells * 16 + nibble_at cells IXL

-- m: with IXE set it is ORed with IX
unfoldable pub address_of : List ℕ → ℕ → ℕ
address_of cells m = cond (is_set cells PSW IXE) (bit_or m (ix_of cells)) m

-- r: in the row of 7EH's bits 3 to 1, never ORed
unfoldable pub register_of : List ℕ → ℕ → ℕ
register_of cells r = place (nibble_at cells RPL / 2) r

-- @r: the column is the content of r; the row is m's, ORed with IX's where IXE is set, but 7BH's wherever MPE is set
unfoldable pub indirect_of : List ℕ → ℕ → ℕ → ℕ
indirect_of cells m content = place (cond (is_set cells IXH MPE) (row_of cells) (address_of cells m / 16)) content
