-- Whether the cells that a chip lacks are 0, as the code joins their bits.
-- Assumes nothing.
use mathlib.Core.Path.{◌≡◌, ◌∙◌, refl}
use mathlib.Core.Bool.{Bool, true, false, ◌&&◌, ◌||◌, cond, and_comm}
use mathlib.Core.List.{List}
use Prim.Native.Nat.{ℕ, ◌+◌}
use native.Mathlib.Numerals.{add-one}
use native.Mathlib.Omega.{arith}
use borrow.Author.Tests.{eq-eqb, ne_eqb, eqb-true, eqb-false}
use lib.Bits.{bit_or, or_add_and, and_le_l, and_le_r}
use lib.Dec.{eqb}
use lib.ListN.{get_or}
use Rattle.laws.specs.Every.{every}
use Rattle.laws.proofs.Booleans.{or_left}
use Rattle.laws.proofs.Every.{every_at_lem, every_of, holds, passed}
use Rattle.memory.specs.Chip.{Chip, is_whole}
use Rattle.machine.specs.FixedBits.{empty_if_missing}

-- no bit in either
or_zero : (a b : ℕ) (p q : Bool) → eqb a 0 ≡ p → eqb b 0 ≡ q → eqb (bit_or a b) 0 ≡ (p && q)
or_zero a b true true p q =
    eq-eqb (bit_or a b) 0 (omega (arith, or_add_and a b, eqb-true a 0 p, eqb-true b 0 q))
or_zero a b true false p q =
    ne_eqb (bit_or a b) 0 (λ (e : bit_or a b ≡ 0). eqb-false b 0 q (omega (arith, or_add_and a b, and_le_l a b, e)))
or_zero a b false q p r =
    ne_eqb (bit_or a b) 0 (λ (e : bit_or a b ≡ 0). eqb-false a 0 p (omega (arith, or_add_and a b, and_le_r a b, e)))

module _ (chip : Chip) (cells : List ℕ) where
  pub none_missing : is_whole chip ≡ true → every (empty_if_missing chip cells) 128 ≡ true
  unfolding is_whole
  none_missing w =
      holds (every_of (empty_if_missing chip cells) 128 (λ k h.
      passed (or_left (chip.installed k) (eqb (get_or cells k 0) 0) (holds (every_at_lem chip.installed 128 (passed w) k h)))))

  -- what a cell adds to the bits
  added : (b : Bool) (v : ℕ) → eqb (cond b 0 v) 0 ≡ (b || eqb v 0)
  added true v = refl
  added false v = refl

  -- one cell more
  pub one_more : (i bits : ℕ) → eqb bits 0 ≡ every (empty_if_missing chip cells) i
      → eqb (bit_or bits (cond (chip.installed i) 0 (get_or cells i 0))) 0 ≡ every (empty_if_missing chip cells) (i + 1)
  one_more i bits e =
      rw (add-one i)
      (or_zero bits _ (eqb bits 0) _ refl (added (chip.installed i) (get_or cells i 0))
      ∙ rw e (and_comm (every (empty_if_missing chip cells) i) (empty_if_missing chip cells i)))
