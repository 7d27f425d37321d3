-- Where no pulse can come the timer's tick is its divider's.
-- Assumes nothing.
use Rattle.std.proofs.Common.{◌≡◌, ℕ, zero, suc, ◌+◌, ◌-◌, ◌%◌, ◌<◌, ◌≤◌, Bool, true, false, cond, not, ◌&&◌, eqb, ltb, leb, refl, subst, arith, ltb-false, leb-true}
use Rattle.peripherals.specs.Pace.{Quiet, rest_in, rest_of, turned_of, paced_of, left_of, PaceLaws}
use Rattle.peripherals.specs.Registers.{is_on}
use Rattle.peripherals.specs.Table.{TM, TMEN}
use Rattle.peripherals.specs.Timer.{clock_of, period_of, pulses_of, comes_of, tick_of}
use Rattle.peripherals.specs.declared.Peripherals.{Peripherals}

no_pulse : (k : ℕ) → k ≡ 0 → ltb 0 k ≡ false
no_pulse k e = rw e

-- the INT clock is quiet where its pulse bit is 0
pin_rests : (quiet : Bool) (n : ℕ) → n ≤ cond quiet 127 0 → 1 ≤ n → not quiet ≡ false
pin_rests true n h some = refl
pin_rests false n h some = absurd (omega arith)

-- no pulse within a period's rest
rests : (clock divider pulse n : ℕ) → clock < 4 → n ≤ rest_in clock divider pulse → 1 ≤ n → comes_of clock divider n pulse ≡ false
unfolding rest_in comes_of period_of
rests zero d pulse n l h some = no_pulse (pulses_of 16 d n) (omega (arith, h))
rests (suc zero) d pulse n l h some = no_pulse (pulses_of 2 d n) (omega (arith, h))
rests (suc (suc zero)) d pulse n l h some = no_pulse (pulses_of 128 d n) (omega (arith, h))
rests (suc (suc (suc zero))) d pulse n l h some = pin_rests (eqb pulse 0) n h some
rests (suc (suc (suc (suc k)))) d pulse n l h some = absurd (omega arith)

-- none in the last of some cycles, where none is in all of them
last : (clock divider pulse first n : ℕ) → clock < 4 → comes_of clock divider (first + n) pulse ≡ false
    → comes_of clock ((divider + first) % 128) n pulse ≡ false
unfolding comes_of period_of
last zero d pulse c n l h = no_pulse (pulses_of 16 ((d + c) % 128) n) (omega (arith, ltb-false 0 (pulses_of 16 d (c + n)) h))
last (suc zero) d pulse c n l h = no_pulse (pulses_of 2 ((d + c) % 128) n) (omega (arith, ltb-false 0 (pulses_of 2 d (c + n)) h))
last (suc (suc zero)) d pulse c n l h = no_pulse (pulses_of 128 ((d + c) % 128) n) (omega (arith, ltb-false 0 (pulses_of 128 d (c + n)) h))
last (suc (suc (suc zero))) d pulse c n l h = h
last (suc (suc (suc (suc k)))) d pulse c n l h = absurd (omega arith)

-- whatever the timer's flag
off_or : (on : Bool) (a b : Bool) → (a ≡ false → b ≡ false) → (on && a) ≡ false → (on && b) ≡ false
off_or true a b f h = f h
off_or false a b f h = refl

module _ (p : Peripherals) (pulse : ℕ) where
  none : Quiet p pulse 0
  none n h some = absurd (omega arith)

  rest_quiet : (on : Bool) → is_on p.registers TM TMEN ≡ on → Quiet p pulse (rest_of p.registers p.divider pulse)
  unfolding rest_of
  rest_quiet true e n h some = rw e (rests (clock_of p.registers) p.divider pulse n (omega arith) (subst (λ (b : Bool). n ≤ cond b (rest_in (clock_of p.registers) p.divider pulse) 127) e h) some)
  rest_quiet false e n h some = rw e refl

-- after a tick, which leaves the registers
ticked_quiet : (p : Peripherals) (pulse cycles : ℕ) → Quiet (tick_of p cycles pulse) pulse (rest_of p.registers ((p.divider + cycles) % 128) pulse)
unfolding tick_of
ticked_quiet p pulse cycles = rest_quiet (tick_of p cycles pulse) pulse (is_on p.registers TM TMEN) refl

module _ (p : Peripherals) (pulse : ℕ) where
  module _ (quiet cycles : ℕ) (q : Quiet p pulse quiet) where
    tick_turns : cycles ≤ quiet → 1 ≤ cycles → turned_of p cycles ≡ tick_of p cycles pulse
    unfolding tick_of
    tick_turns h some = rw (q cycles h some)

    ticks_by : (b : Bool) → leb cycles quiet ≡ b → 1 ≤ cycles → paced_of p quiet cycles pulse ≡ tick_of p cycles pulse
    unfolding paced_of
    ticks_by true e some = rw e (tick_turns (leb-true cycles quiet e) some)
    ticks_by false e some = rw e

    turned_quiet : cycles ≤ quiet → Quiet (turned_of p cycles) pulse (quiet - cycles)
    turned_quiet h n l some =
        off_or (is_on p.registers TM TMEN) _ _ (last (clock_of p.registers) p.divider pulse cycles n (omega arith))
        (q (cycles + n) (omega arith) (omega arith))

    on_by : (b : Bool) → leb cycles quiet ≡ b → Quiet (paced_of p quiet cycles pulse) pulse (left_of p quiet cycles pulse)
    unfolding paced_of left_of
    on_by true e = rw e (turned_quiet (leb-true cycles quiet e))
    on_by false e = rw e (ticked_quiet p pulse cycles)

pub pace_laws : (p : Peripherals) (pulse quiet cycles : ℕ) → PaceLaws p pulse quiet cycles
pace_laws p pulse quiet cycles = record {
  none = none p pulse;
  ticks = λ q some. ticks_by p pulse quiet cycles q (leb cycles quiet) refl some;
  goes_on = λ q. on_by p pulse quiet cycles q (leb cycles quiet) refl;
}
