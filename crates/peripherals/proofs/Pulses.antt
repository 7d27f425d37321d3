-- How many pulses a step has, and after how many the counter matches.
-- Assumes nothing.
use Rattle.std.proofs.Common.{◌≡◌, ℕ, zero, suc, ◌+◌, ◌<◌, ◌≤◌, true, false, ltb, refl, ◌∙◌, add-one, arith, eq-eqb, ne_eqb}
use Rattle.laws.specs.Bit.{bit}
use Rattle.laws.specs.Wrap.{wrap_next}
use Rattle.peripherals.specs.Timer.{period_of, pulses_of, comes_of, is_match, count_of}
use Rattle.peripherals.specs.TimerLaws.{PulseLaws, pulsed, MatchLaws}

one : (clock divider cycles : ℕ) → clock < 3 → cycles ≤ 2 → pulses_of (period_of clock) divider cycles ≤ 1
unfolding period_of
one zero divider cycles h l = omega arith
one (suc zero) divider cycles h l = omega arith
one (suc (suc zero)) divider cycles h l = omega arith
one (suc (suc (suc k))) divider cycles h l = absurd (omega arith)

at_most_one : (n : ℕ) → n ≤ 1 → bit (ltb 0 n) ≡ n
at_most_one zero h = refl
at_most_one (suc zero) h = refl
at_most_one (suc (suc n)) h = absurd (omega arith)

number : (clock divider cycles pulse : ℕ) → clock < 3 → cycles ≤ 2
    → bit (comes_of clock divider cycles pulse) ≡ pulses_of (period_of clock) divider cycles
unfolding comes_of
number clock divider cycles pulse h l =
    rw (ne_eqb clock 3 (λ e. omega arith)) (at_most_one (pulses_of (period_of clock) divider cycles) (one clock divider cycles h l))

pin : (divider cycles pulse : ℕ) → pulse ≤ 1 → bit (comes_of 3 divider cycles pulse) ≡ pulse
unfolding comes_of
pin divider cycles zero h = refl
pin divider cycles (suc zero) h = refl
pin divider cycles (suc (suc pulse)) h = absurd (omega arith)

pub pulse_laws : (clock divider cycles pulse : ℕ) → PulseLaws clock divider cycles pulse
pulse_laws clock divider cycles pulse = record { one = one clock divider cycles; number = number clock divider cycles pulse; pin = pin divider cycles pulse }

-- at equality the next pulse clears the counter, and else it counts
pub at_match : (modulo counter : ℕ) → counter ≡ modulo → count_of modulo counter ≡ 0
unfolding count_of
at_match modulo counter e = rw (eq-eqb counter modulo e)

pub no_match : (modulo counter : ℕ) → (counter ≡ modulo → ⊥) → count_of modulo counter ≡ wrap_next 8 counter
unfolding count_of
no_match modulo counter n = rw (ne_eqb counter modulo n)

module _ (modulo : ℕ) (byte : modulo < 256) where
  counts : (n : ℕ) → n ≤ modulo → pulsed modulo n ≡ n
  counts zero h = refl
  counts (suc n) h =
      let e : pulsed modulo n ≡ n = counts n (omega arith) in
      rw e (no_match modulo n (λ q. omega arith) ∙ omega arith)

  before : (n : ℕ) → n < modulo → is_match modulo (pulsed modulo n) ≡ false
  before n h = rw (counts n (omega arith)) (ne_eqb n modulo (λ q. omega arith))

  first : is_match modulo (pulsed modulo modulo) ≡ true
  first = rw (counts modulo (omega arith)) (eq-eqb modulo modulo refl)

  left : pulsed modulo (modulo + 1) ≡ 0
  left = rw (add-one modulo, counts modulo (omega arith)) (at_match modulo modulo refl)

pub match_laws : (modulo : ℕ) → MatchLaws modulo
match_laws modulo = record { before = before modulo; first = first modulo; left = left modulo }
