-- The laws of a counter, over its width.
-- Assumes nothing.
use mathlib.Core.Path.{◌≡◌, ◌∙◌, ap}
use Prim.Native.Nat.{ℕ, ◌+◌, ◌%◌, ◌^◌, ◌<◌}
use native.Mathlib.Nat.{mod-lt, mod-eq_of_lt, mod_self, mod-mod_of_dvd, dvd-mul_left}
use lib.Pow.{pow_pos, pow-add}
use Rattle.laws.specs.Wrap.{wrap_next, WrapLaws}

module _ (width x : ℕ) where
  pub wrap_below : wrap_next width x < 2 ^ width
  wrap_below = mod-lt (x + 1) (pow_pos width)

  wrap_inner : x + 1 < 2 ^ width → wrap_next width x ≡ x + 1
  wrap_inner h = mod-eq_of_lt h

  wrap_last : x + 1 ≡ 2 ^ width → wrap_next width x ≡ 0
  wrap_last e = ap (λ (n : ℕ). n % 2 ^ width) e ∙ mod_self (2 ^ width)

  pub wrap_laws : WrapLaws width x
  wrap_laws = record { below = wrap_below; inner = wrap_inner; last = wrap_last }

  -- as the code computes it: an addition that wraps at a wider width, cut to this one
  pub cut : (more : ℕ) → ((x + 1) % 2 ^ (more + width)) % 2 ^ width ≡ wrap_next width x
  cut more = mod-mod_of_dvd (2 ^ width) (x + 1) (rw (pow-add 2 more width) (dvd-mul_left (2 ^ width) (2 ^ more)))
