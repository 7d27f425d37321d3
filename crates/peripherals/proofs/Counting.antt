-- The counter counts the pulses of a list of ticks, and the divider its cycles.
-- Assumes nothing.
use Rattle.std.proofs.Common.{◌≡◌, ℕ, ◌+◌, ◌%◌, ◌<◌, Bool, true, false, List, [], ◌∷◌, sym, refl, ap, ◌∙◌, add-zero, add_assoc, zero-add, add-one, arith, get_or-set_other, ne_eqb}
use Rattle.laws.specs.Bit.{bit}
use Rattle.peripherals.specs.Registers.{is_on, place_of, poke_of}
use Rattle.peripherals.specs.Table.{TM, TMEN}
use Rattle.peripherals.specs.Timer.{clock_of, comes_of, counter_of, tick_of}
use Rattle.peripherals.specs.TimerLaws.{pulsed, Tick, after_ticks, cycles_in, pulses_in, CountLaws, Counting, CountingLaws}
use Rattle.peripherals.proofs.Since.{elsewhere}
use Rattle.peripherals.specs.declared.Peripherals.{Peripherals}

module _ (p : Peripherals) (cycles pulse n : ℕ) (on : is_on p.registers TM TMEN ≡ true) (e : p.counter ≡ pulsed p.modulo n) where
  abbrev comes : Bool
  comes = comes_of (clock_of p.registers) p.divider cycles pulse

  once_by : (b : Bool) → comes ≡ b → counter_of p cycles pulse ≡ pulsed p.modulo (n + bit b)
  once_by true q = rw (on, q, add-one n, e)
  once_by false q = rw (on, q, add-zero n) e

  once : counter_of p cycles pulse ≡ pulsed p.modulo (n + bit comes)
  once = once_by comes refl

counted : (ts : List Tick) (p : Peripherals) (n : ℕ) → is_on p.registers TM TMEN ≡ true → p.counter ≡ pulsed p.modulo n
    → (after_ticks ts p).counter ≡ pulsed p.modulo (n + pulses_in ts p)
unfolding tick_of
counted [] p n on e = rw (add-zero n) e
counted (t ∷ ts) p n on e =
    let b : ℕ = bit (comes_of (clock_of p.registers) p.divider t.cycles t.pulse) in
    let q : Peripherals = tick_of p t.cycles t.pulse in
    rw (add_assoc n b (pulses_in ts q)) at (counted ts q (n + b) on (once p t.cycles t.pulse n on e))

stopped : (ts : List Tick) (p : Peripherals) → is_on p.registers TM TMEN ≡ false → (after_ticks ts p).counter ≡ p.counter
unfolding tick_of
stopped [] p off = refl
stopped (t ∷ ts) p off = stopped ts (tick_of p t.cycles t.pulse) off ∙ rw off

running : (ts : List Tick) (p : Peripherals) → p.divider < 128 → (after_ticks ts p).divider ≡ (p.divider + cycles_in ts) % 128
unfolding tick_of
running [] p h = omega arith
running (t ∷ ts) p h = running ts (tick_of p t.cycles t.pulse) (omega arith) ∙ omega arith

pub count_laws : (p : Peripherals) (ts : List Tick) → CountLaws p ts
count_laws p ts = record { counted = λ on e. rw (zero-add (pulses_in ts p)) at (counted ts p 0 on e); stopped = stopped ts p; running = running ts p }

ticks_on : (mode modulo n cycles pulse : ℕ) (p : Peripherals) → is_on p.registers TM TMEN ≡ true → Counting mode modulo n p
    → Counting mode modulo (n + bit (comes_of (clock_of p.registers) p.divider cycles pulse)) (tick_of p cycles pulse)
unfolding tick_of
ticks_on mode modulo n cycles pulse p on c = record {
  same_mode = c.same_mode;
  same_modulo = c.same_modulo;
  counter =
      once p cycles pulse n on (c.counter ∙ ap (λ (x : ℕ). pulsed x n) (sym c.same_modulo))
      ∙ ap (λ (x : ℕ). pulsed x (n + bit (comes_of (clock_of p.registers) p.divider cycles pulse))) c.same_modulo;
}

pokes_on : (mode modulo n rf v : ℕ) (p : Peripherals) → (rf ≡ 0x11 → ⊥) → Counting mode modulo n p → Counting mode modulo n (poke_of p rf v)
unfolding poke_of
pokes_on mode modulo n rf v p other c = record {
  same_mode = get_or-set_other p.registers (place_of rf) TM _ 0 (λ e. elsewhere rf other (sym e)) ∙ c.same_mode;
  same_modulo = c.same_modulo;
  counter = rw (ne_eqb (place_of rf) TM (elsewhere rf other)) c.counter;
}

pub counting_laws : CountingLaws
counting_laws = record { tick = ticks_on; poke = pokes_on }
