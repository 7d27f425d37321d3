-- Port directions from the control registers, 1 for output: source document 000, 12.7 and tables 12-1 to 12-7.
-- Assumes nothing.
use Rattle.std.specs.Prelude.{ℕ, cond, List, [], ◌∷◌, bit_or, slice_index, slice_index_or}
use Rattle.peripherals.specs.Registers.{is_on}
use Rattle.peripherals.specs.Table.{TMO, P0BGIO, P0EBIO, P0DBIO, P0CBIO, P0ABIO, TMOSEL, GROUP}

-- 12.7.1: one bit for all four pins
abbrev pub group_direction : List ℕ → ℕ
group_direction registers = cond (is_on registers P0BGIO GROUP) 0b1111 0b0000

-- table 12-6: P0D's bit 3 is an output also where TMOSEL is 1
abbrev pub timer_direction : List ℕ → ℕ
timer_direction registers =
    let own = slice_index_or registers P0DBIO 0 in
    cond (is_on registers TMO TMOSEL) (bit_or own 0b1000) own

-- of P0A to P0E, the order of the input record
unfoldable pub directions_of : List ℕ → List ℕ
directions_of registers =
    slice_index registers P0ABIO
    ∷ group_direction registers
    ∷ slice_index registers P0CBIO
    ∷ timer_direction registers
    ∷ slice_index registers P0EBIO
    ∷ []
