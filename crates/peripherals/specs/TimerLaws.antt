-- What the timer does, tick by tick and pulse by pulse. Proved in the files Ticks, Pulses, Since and Counting of proofs/.
-- Assumes nothing.
use Rattle.std.specs.Prelude.{◌≡◌, ℕ, zero, suc, ◌+◌, ◌/◌, ◌%◌, ◌<◌, ◌≤◌, true, false, List, [], ◌∷◌, ◌≢◌, slice_index, slice_index_or}
use Rattle.laws.specs.Bit.{bit}
use Rattle.peripherals.specs.Range.{peripherals_in_range}
use Rattle.peripherals.specs.Registers.{is_on, poke_of, reset_peripherals}
use Rattle.peripherals.specs.Table.{TM, TMEN}
use Rattle.peripherals.specs.Timer.{clock_of, period_of, pulses_of, comes_of, is_match, count_of, tick_of}
use Rattle.peripherals.specs.declared.Peripherals.{Peripherals}

pub record TickLaws (p : Peripherals) (cycles pulse : ℕ) : Type 0 where
  pub registers : (tick_of p cycles pulse).registers ≡ p.registers
  pub modulo : (tick_of p cycles pulse).modulo ≡ p.modulo
  pub ranged : peripherals_in_range p ≡ true → peripherals_in_range (tick_of p cycles pulse) ≡ true

-- with each clock of the divider a step has one pulse or none, and `comes_of` is their number
pub record PulseLaws (clock divider cycles pulse : ℕ) : Type 0 where
  pub one : clock < 3 → cycles ≤ 2 → pulses_of (period_of clock) divider cycles ≤ 1
  pub number : clock < 3 → cycles ≤ 2 → bit (comes_of clock divider cycles pulse) ≡ pulses_of (period_of clock) divider cycles
  -- with the INT clock the pulses are the pulse bit
  pub pin : pulse ≤ 1 → bit (comes_of 3 divider cycles pulse) ≡ pulse

-- the peripherals so many cycles after reset, while nothing is written to 11H or to the modulo register
pub record Since (cycles : ℕ) (p : Peripherals) : Type 0 where
  pub mode : slice_index_or p.registers TM 0 ≡ slice_index reset_peripherals.registers TM
  pub modulo : p.modulo ≡ reset_peripherals.modulo
  pub counter : p.counter ≡ cycles / 16 % 256
  pub divider : p.divider ≡ cycles % 128

-- so many ticks of one cycle from reset
abbrev pub ticked : ℕ → Peripherals
ticked zero = reset_peripherals
ticked (suc n) = tick_of (ticked n) 1 0

pub record ResetLaws : Type 0 where
  pub start : Since 0 reset_peripherals
  pub tick : (cycles more pulse : ℕ) (p : Peripherals) → more ≤ 2 → Since cycles p → Since (cycles + more) (tick_of p more pulse)
  pub poke : (cycles rf v : ℕ) (p : Peripherals) → (rf ≢ 0x11) → Since cycles p → Since cycles (poke_of p rf v)
  pub counter : (cycles : ℕ) → (ticked cycles).counter ≡ cycles / 16 % 256
  pub divider : (cycles : ℕ) → (ticked cycles).divider ≡ cycles % 128

-- the counter after so many pulses from 0 with TMEN 1
abbrev pub pulsed : ℕ → ℕ → ℕ
pulsed modulo zero = 0
pulsed modulo (suc n) = count_of modulo (pulsed modulo n)

-- the first match comes with pulse N + 1, N = 0 too, and leaves the counter 0
pub record MatchLaws (modulo : ℕ) : Type 0 where
  pub before : modulo < 256 → (n : ℕ) → n < modulo → is_match modulo (pulsed modulo n) ≡ false
  pub first : modulo < 256 → is_match modulo (pulsed modulo modulo) ≡ true
  pub left : modulo < 256 → pulsed modulo (modulo + 1) ≡ 0

-- a tick's cycles and its pulse bit
pub record Tick : Type 0 where
  pub cycles : ℕ
  pub pulse : ℕ

-- ticks one after the other, their cycles, and how many of them have a pulse
abbrev pub after_ticks : List Tick → Peripherals → Peripherals
after_ticks [] p = p
after_ticks (t ∷ ts) p = after_ticks ts (tick_of p t.cycles t.pulse)

abbrev pub cycles_in : List Tick → ℕ
cycles_in [] = 0
cycles_in (t ∷ ts) = t.cycles + cycles_in ts

abbrev pub pulses_in : List Tick → Peripherals → ℕ
pulses_in [] p = 0
pulses_in (t ∷ ts) p =
    bit (comes_of (clock_of p.registers) p.divider t.cycles t.pulse) + pulses_in ts (tick_of p t.cycles t.pulse)

-- while nothing is written: with TMEN 1 the counter counts the pulses, with TMEN 0 it stays; the divider runs in any case
pub record CountLaws (p : Peripherals) (ts : List Tick) : Type 0 where
  pub counted : is_on p.registers TM TMEN ≡ true → p.counter ≡ 0 → (after_ticks ts p).counter ≡ pulsed p.modulo (pulses_in ts p)
  pub stopped : is_on p.registers TM TMEN ≡ false → (after_ticks ts p).counter ≡ p.counter
  pub running : p.divider < 128 → (after_ticks ts p).divider ≡ (p.divider + cycles_in ts) % 128

-- so many pulses from counter 0, with a mode and a modulo that stay
pub record Counting (mode modulo n : ℕ) (p : Peripherals) : Type 0 where
  pub same_mode : slice_index_or p.registers TM 0 ≡ mode
  pub same_modulo : p.modulo ≡ modulo
  pub counter : p.counter ≡ pulsed modulo n

pub record CountingLaws : Type 0 where
  pub tick : (mode modulo n cycles pulse : ℕ) (p : Peripherals) → is_on p.registers TM TMEN ≡ true → Counting mode modulo n p
      → Counting mode modulo (n + bit (comes_of (clock_of p.registers) p.divider cycles pulse)) (tick_of p cycles pulse)
  pub poke : (mode modulo n rf v : ℕ) (p : Peripherals) → (rf ≢ 0x11) → Counting mode modulo n p → Counting mode modulo n (poke_of p rf v)
