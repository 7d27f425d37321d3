-- What a tick leaves, and that it keeps the range.
-- Assumes nothing.
use Rattle.std.proofs.Common.{◌≡◌, ℕ, ◌+◌, ◌%◌, ◌<◌, true, ◌&&◌, ltb, refl, arith, lit<, ltb-true, lt-ltb}
use Rattle.laws.specs.Every.{every}
use Rattle.laws.specs.Wrap.{wrap_next}
use Rattle.laws.proofs.Booleans.{both, either}
use Rattle.laws.proofs.Wrap.{wrap_below}
use Rattle.peripherals.specs.Range.{register_in_range, peripherals_in_range}
use Rattle.peripherals.specs.Registers.{is_on}
use Rattle.peripherals.specs.Table.{TM, TMEN}
use Rattle.peripherals.specs.Timer.{clock_of, comes_of, is_match, count_of, counter_of, tick_of}
use Rattle.peripherals.specs.TimerLaws.{TickLaws}
use Rattle.peripherals.specs.declared.Peripherals.{Peripherals}

below : (modulo counter : ℕ) → count_of modulo counter < 256
unfolding count_of
below modulo counter =
    either (λ (x : ℕ). x < 256) (is_match modulo counter) 0 (wrap_next 8 counter) (lit< tt) (wrap_below 8 counter)

module _ (p : Peripherals) (cycles pulse : ℕ) where
  counter_below : p.counter < 256 → counter_of p cycles pulse < 256
  counter_below h =
      either (λ (x : ℕ). x < 256) (is_on p.registers TM TMEN && comes_of (clock_of p.registers) p.divider cycles pulse)
      (count_of p.modulo p.counter)
      p.counter
      (below p.modulo p.counter)
      h

  ranged : peripherals_in_range p ≡ true → peripherals_in_range (tick_of p cycles pulse) ≡ true
  unfolding peripherals_in_range tick_of
  ranged h =
      let all = both (every (register_in_range p.registers) 7) _ h in
      let two = both (ltb p.divider 128) _ all.1 in
      let three = both (ltb p.counter 256) (ltb p.modulo 256) two.1 in
      rw (
        all.0,
        lt-ltb ((p.divider + cycles) % 128) 128 (omega arith),
        lt-ltb (counter_of p cycles pulse) 256 (counter_below (ltb-true p.counter 256 three.0)),
        three.1,
      )

  pub tick_laws : TickLaws p cycles pulse
  unfolding tick_of
  tick_laws = record { registers = refl; modulo = refl; ranged = ranged }
