-- When the peripherals are in range: document 02, E4, "a control register, counter or divider out of range, TMRES set included".
-- Assumes nothing.
use Rattle.std.specs.Prelude.{ℕ, Bool, ◌&&◌, List, ◌==◌, bit_and, nat_lt, slice_index}
use Rattle.laws.specs.Every.{every}
use Rattle.peripherals.specs.Table.{stays_at}
use Rattle.peripherals.specs.declared.Peripherals.{Peripherals}

-- all bits of a register are such as stay
abbrev pub register_in_range : List ℕ → ℕ → Bool
register_in_range registers k = bit_and (slice_index registers k) (stays_at k) == slice_index registers k

-- the divider has seven bits, counter and modulo are bytes
unfoldable pub peripherals_in_range : Peripherals → Bool
peripherals_in_range p =
    every (register_in_range p.registers) 7 && (nat_lt p.divider 128 && (nat_lt p.counter 256 && nat_lt p.modulo 256))
