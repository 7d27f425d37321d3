-- WR, and the registers of several cells: AR, the data buffer and IX, read as numbers and written nibble by nibble.
-- Assumes nothing.
use Rattle.std.specs.Prelude.{ℕ, ◌+◌, ◌*◌, ◌/◌, ◌%◌, List, [], ◌∷◌}
use Rattle.laws.specs.Wrap.{wrap_next}
use Rattle.memory.specs.Address.{ix_of}
use Rattle.memory.specs.Cells.{cell_at, nibble_at, number}
use Rattle.memory.specs.Names.{AR3, AR2, AR1, AR0, WR, DBF3, DBF2, DBF1, DBF0, IXH, IXM, IXL}
use Rattle.memory.specs.Write.{Write, ◌↤◌}

-- the window register
abbrev pub window_of : List ℕ → ℕ
window_of cells = cell_at cells WR

-- the address register
unfoldable pub ar_of : List ℕ → ℕ
ar_of cells = number (nibble_at cells AR3) (nibble_at cells AR2) (nibble_at cells AR1) (nibble_at cells AR0)

-- the data buffer
abbrev pub buffer_of : List ℕ → ℕ
buffer_of cells = number (nibble_at cells DBF3) (nibble_at cells DBF2) (nibble_at cells DBF1) (nibble_at cells DBF0)

-- its lower eight bits: GET and PUT of a peripheral of eight bits (source document 000, 10.2.2)
abbrev pub low_byte_of : List ℕ → ℕ
low_byte_of cells = nibble_at cells DBF1 * 16 + nibble_at cells DBF0

abbrev pub low_byte_writes : ℕ → List Write
low_byte_writes v = (DBF1 ↤ (v / 16)) ∷ (DBF0 ↤ (v % 16)) ∷ []

-- the writes that put a number of 16 bits into four cells, the highest nibble first
abbrev pub number_writes : ℕ → ℕ → ℕ → ℕ → ℕ → List Write
number_writes a b c d v = (a ↤ (v / 4096)) ∷ (b ↤ (v / 256 % 16)) ∷ (c ↤ (v / 16 % 16)) ∷ (d ↤ (v % 16)) ∷ []

abbrev pub ar_writes : ℕ → List Write
ar_writes v = number_writes AR3 AR2 AR1 AR0 v

abbrev pub buffer_writes : ℕ → List Write
buffer_writes v = number_writes DBF3 DBF2 DBF1 DBF0 v

-- "INC AR goes from 3FFH to 000H"
abbrev pub increment_ar : List ℕ → List Write
increment_ar cells = ar_writes (wrap_next 10 (ar_of cells))

-- INC IX goes from 7FH to 00H and leaves MPE; 7AH is written all the same (document 02, E7)
abbrev pub increment_ix : List ℕ → List Write
increment_ix cells =
    let x = wrap_next 7 (ix_of cells) in
    (IXH ↤ cell_at cells IXH) ∷ (IXM ↤ (x / 16)) ∷ (IXL ↤ (x % 16)) ∷ []
