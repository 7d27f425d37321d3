-- The timer: source document 000, 13.1, with document 02's cycles and pulses.
-- Assumes nothing.
use Rattle.std.specs.Prelude.{ℕ, ◌+◌, ◌-◌, ◌/◌, ◌%◌, Bool, cond, not, ◌&&◌, List, [], ◌∷◌, ◌==◌, nat_lt, slice_index, slice_index_or}
use Rattle.laws.specs.Wrap.{wrap_next}
use Rattle.peripherals.specs.Registers.{is_on}
use Rattle.peripherals.specs.Table.{TM, TMEN}
use Rattle.peripherals.specs.declared.Peripherals.{Peripherals}

-- TMCK1 and TMCK0
abbrev pub clock_of : List ℕ → ℕ
clock_of registers = slice_index registers TM % 4

-- "fx/32 is two cycles, fx/256 16, fx/2048 128", in the order of TMCK (figure 13-2)
unfoldable pub period_of : ℕ → ℕ
period_of clock = slice_index_or (16 ∷ 2 ∷ 128 ∷ []) clock 1

-- the pulses of a period among so many cycles from a divider
abbrev pub pulses_of : ℕ → ℕ → ℕ → ℕ
pulses_of period divider cycles = (divider + cycles) / period - divider / period

-- whether a pulse comes in so many cycles: of the divider, or with TMCK 11 the one that the host gives. A step has at most two
-- cycles, so there is at most one (PulseLaws); where there could be several they count as one.
unfoldable pub comes_of : ℕ → ℕ → ℕ → ℕ → Bool
comes_of clock divider cycles pulse =
    cond (clock == 3) (not (pulse == 0)) (nat_lt 0 (pulses_of (period_of clock) divider cycles))

-- whether the pulse that comes is a match
abbrev pub is_match : ℕ → ℕ → Bool
is_match modulo counter = counter == modulo

-- the counter at a pulse: "A match resets the counter at the pulse after equality"; else it goes on, and after 255 to 0
unfoldable pub count_of : ℕ → ℕ → ℕ
count_of modulo counter = cond (is_match modulo counter) 0 (wrap_next 8 counter)

-- the counter after so many cycles
abbrev pub counter_of : Peripherals → ℕ → ℕ → ℕ
counter_of p cycles pulse =
    cond (is_on p.registers TM TMEN && comes_of (clock_of p.registers) p.divider cycles pulse)
    (count_of p.modulo p.counter)
    p.counter

-- a step's cycles, and the pulse bit given with it. The divider runs whatever TMEN and TMCK are.
unfoldable pub tick_of : Peripherals → ℕ → ℕ → Peripherals
tick_of p cycles pulse =
    record {
      registers = p.registers;
      modulo = p.modulo;
      counter = counter_of p cycles pulse;
      divider = (p.divider + cycles) % 128;
    }
