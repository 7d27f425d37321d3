-- The control registers read and written: source document 000, 9.3, 13.1.3 and figure 13-2.
-- Assumes nothing.
use Rattle.std.specs.Prelude.{ℕ, suc, Bool, cond, not, ◌&&◌, ◌||◌, List, [], ◌∷◌, map, length, ◌==◌, bit_and, nat_le, nat_lt, slice_index, slice_set}
use Rattle.peripherals.specs.Table.{Register, control_registers, stays_at, TM, TMRES}
use Rattle.peripherals.specs.declared.Peripherals.{Peripherals}

-- how many registers come before the one with an address
abbrev pub place_in : List Register → ℕ → ℕ
place_in [] rf = 0
place_in (r ∷ rs) rf = cond (rf == r.address) 0 (suc (place_in rs rf))

-- where the register with an address stands in the table; past its end where there is none
abbrev pub place_of : ℕ → ℕ
place_of rf = place_in control_registers rf

unfoldable pub is_control : ℕ → Bool
is_control rf = nat_lt (place_of rf) (length control_registers)

-- "Register file 40H to 7FH is data memory"
abbrev pub is_data : ℕ → Bool
is_data rf = nat_le 0x40 rf

-- below 40H, where this is false, there is "no such control register"
unfoldable pub in_file : ℕ → Bool
in_file rf = is_data rf || is_control rf

-- whether a flag bit of the register at a place is 1
abbrev pub is_on : List ℕ → ℕ → ℕ → Bool
is_on registers k flag = not (bit_and (slice_index registers k) flag == 0)

-- where there is no register 0 is read
unfoldable pub peek_of : List ℕ → ℕ → ℕ
peek_of registers rf = slice_index registers (place_of rf)

-- the bits that stay are stored; where there is no register nothing is
abbrev pub stored_of : List ℕ → ℕ → ℕ → List ℕ
stored_of registers k v = slice_set registers k (bit_and v (stays_at k))

-- TMRES written to 11H makes the counter 0
abbrev pub cleared_of : ℕ → ℕ → ℕ → ℕ
cleared_of k v counter = cond (k == TM && not (bit_and v TMRES == 0)) 0 counter

-- "TMRES does not touch it", the divider
unfoldable pub poke_of : Peripherals → ℕ → ℕ → Peripherals
poke_of p rf v =
    record {
      registers = stored_of p.registers (place_of rf) v;
      modulo = p.modulo;
      counter = cleared_of (place_of rf) v p.counter;
      divider = p.divider;
    }

-- PUT to the modulo register: it alone is changed (source document 000, 13.1.5)
abbrev pub with_modulo : Peripherals → ℕ → Peripherals
with_modulo p v = record { registers = p.registers; modulo = v; counter = p.counter; divider = p.divider }

-- "All that is new starts as source document 000 says": 13.1.3, 13.1.4, 12.1 to 12.6 and figures 12-2,
-- 12-3, 13-2 and 13-7; the divider starts at 0
unfoldable pub reset_peripherals : Peripherals
reset_peripherals =
    record { registers = map (λ (r : Register). r.reset) control_registers; modulo = 0xFF; counter = 0; divider = 0 }
