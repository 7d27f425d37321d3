-- The timer as reset leaves it, cycle by cycle: fx/256 with the modulo 255, so that it counts as a plain byte.
-- Assumes nothing.
use Rattle.std.proofs.Common.{◌≡◌, ℕ, zero, suc, ◌+◌, ◌/◌, ◌%◌, ◌<◌, ◌≤◌, Bool, true, false, cond, eqb, ltb, sym, refl, ◌∙◌, add-one, arith, lit≤, get_or-set_other, ltb-false, ltb-true, ne_eqb, eqb-true}
use borrow.Author.Tests.{eqb-false}
use Rattle.laws.specs.Wrap.{wrap_next}
use Rattle.peripherals.specs.Registers.{place_of, poke_of, reset_peripherals}
use Rattle.peripherals.specs.Table.{control_registers, TM}
use Rattle.peripherals.specs.Timer.{period_of, pulses_of, comes_of, count_of, counter_of, tick_of}
use Rattle.peripherals.specs.TimerLaws.{Since, ticked, ResetLaws}
use Rattle.peripherals.specs.declared.Peripherals.{Peripherals}
use Rattle.peripherals.proofs.Pulses.{at_match, no_match}

-- with the modulo 255 a match comes where the counter would wrap
free_by : (b : Bool) (x : ℕ) → eqb x 255 ≡ b → x < 256 → count_of 255 x ≡ wrap_next 8 x
free_by true x e h = let q = eqb-true x 255 e in at_match 255 x q ∙ omega (arith, q)
free_by false x e h = no_match 255 x (eqb-false x 255 e)

free : (x : ℕ) → x < 256 → count_of 255 x ≡ (x + 1) % 256
free x h = free_by (eqb x 255) x refl h

counts_by : (b : Bool) (cycles more : ℕ) → ltb 0 (pulses_of 16 (cycles % 128) more) ≡ b → more ≤ 2
    → cond b (count_of 255 (cycles / 16 % 256)) (cycles / 16 % 256) ≡ (cycles + more) / 16 % 256
counts_by true cycles more e h =
    let l : 0 < pulses_of 16 (cycles % 128) more = ltb-true 0 (pulses_of 16 (cycles % 128) more) e in
    let q : (cycles + more) / 16 ≡ cycles / 16 + 1 = omega arith in
    free (cycles / 16 % 256) (omega arith) ∙ rw q (omega arith)
counts_by false cycles more e h =
    let l : pulses_of 16 (cycles % 128) more ≤ 0 = ltb-false 0 (pulses_of 16 (cycles % 128) more) e in
    let q : (cycles + more) / 16 ≡ cycles / 16 = omega arith in
    rw q

module _ (cycles more pulse : ℕ) (p : Peripherals) (small : more ≤ 2) (s : Since cycles p) where
  counter : counter_of p more pulse ≡ (cycles + more) / 16 % 256
  unfolding reset_peripherals control_registers comes_of period_of
  counter = rw (s.mode, s.modulo, s.counter, s.divider) (counts_by _ cycles more refl small)

  goes_on : Since (cycles + more) (tick_of p more pulse)
  unfolding tick_of
  goes_on = record { mode = s.mode; modulo = s.modulo; counter = counter; divider = rw s.divider (omega arith) }

-- another register than 11H stands at another place
pub elsewhere : (rf : ℕ) → (rf ≡ 0x11 → ⊥) → place_of rf ≡ TM → ⊥
unfolding control_registers
elsewhere rf n e = let q = rw (ne_eqb rf 0x11 n) at e in omega (arith, q)

other_register : (cycles rf v : ℕ) (p : Peripherals) → (rf ≡ 0x11 → ⊥) → Since cycles p → Since cycles (poke_of p rf v)
unfolding poke_of
other_register cycles rf v p n s = record {
  mode = get_or-set_other p.registers (place_of rf) TM _ 0 (λ e. elsewhere rf n (sym e)) ∙ s.mode;
  modulo = s.modulo;
  counter = rw (ne_eqb (place_of rf) TM (elsewhere rf n)) s.counter;
  divider = s.divider;
}

start : Since 0 reset_peripherals
unfolding reset_peripherals
start = record { mode = refl; modulo = refl; counter = refl; divider = refl }

ticks : (cycles : ℕ) → Since cycles (ticked cycles)
ticks zero = start
ticks (suc n) = rw add-one at (goes_on n 1 0 (ticked n) (lit≤ tt) (ticks n))

pub reset_laws : ResetLaws
reset_laws = record { start = start; tick = goes_on; poke = other_register; counter = λ n. (ticks n).counter; divider = λ n. (ticks n).divider }
