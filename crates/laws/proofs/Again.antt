-- What a mask leaves it leaves again.
-- Assumes nothing.
use mathlib.Core.Path.{◌≡◌, ◌∙◌, sym}
use Prim.Native.Nat.{ℕ, zero, suc, ◌/◌, ◌%◌, ◌≤◌, min}
use native.Mathlib.Nat.{le_refl}
use native.Mathlib.Omega.{arith}
use lib.Bits.{bit_and, and_step, and_zero_l}

half_and : (a b : ℕ) → bit_and a b / 2 ≡ bit_and (a / 2) (b / 2)
half_and a b = omega (arith, and_step a b)

odd_and : (a b : ℕ) → bit_and a b % 2 ≡ min (a % 2) (b % 2)
odd_and a b = omega (arith, and_step a b)

least_again : (a b : ℕ) → min (min a b) b ≡ min a b
least_again a b = omega arith

again_below : (k v m : ℕ) → v ≤ k → bit_and (bit_and v m) m ≡ bit_and v m
again_below zero v m h =
    let e : v ≡ 0 = omega arith in
    rw (e, and_zero_l m, and_zero_l m)
again_below (suc k) v m h =
    let ih = again_below k (v / 2) (m / 2) (omega arith) in
    and_step (bit_and v m) m ∙ rw (half_and v m, odd_and v m, ih, least_again) (sym (and_step v m))

pub again : (v m : ℕ) → bit_and (bit_and v m) m ≡ bit_and v m
again v m = again_below v v m (le_refl v)
