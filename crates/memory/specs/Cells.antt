-- Cells, flags and addresses. A memory is the list of its 128 cells, each a nibble.
-- Assumes nothing.
use Rattle.std.specs.Prelude.{ℕ, ◌+◌, ◌*◌, ◌%◌, Bool, true, false, cond, not, List, ◌==◌, bit_and, bit_or, bit_xor, nat_lt, slice_index}

-- what stands in a cell; an address past 7FH is no cell and reads 0
abbrev pub cell_at : List ℕ → ℕ → ℕ
cell_at cells at = cond (nat_lt at 128) (slice_index cells at) 0

-- the nibble in a cell; of a cell out of range its low four bits
abbrev pub nibble_at : List ℕ → ℕ → ℕ
nibble_at cells at = cell_at cells at % 16

-- whether a flag bit of a cell is 1
unfoldable pub is_set : List ℕ → ℕ → ℕ → Bool
is_set cells at flag = not (bit_and (cell_at cells at) flag == 0)

-- a nibble with a flag bit set or cleared
unfoldable pub with_flag : ℕ → ℕ → Bool → ℕ
with_flag x flag true = bit_or x flag
with_flag x flag false = bit_and x (bit_xor flag 0b1111)

-- the address of a row and a column; of a column out of range its low four bits
abbrev pub place : ℕ → ℕ → ℕ
place row column = row * 16 + column % 16

-- the number whose nibbles stand in four cells, the highest first
abbrev pub number : ℕ → ℕ → ℕ → ℕ → ℕ
number a b c d = a * 4096 + b * 256 + c * 16 + d
