-- Two rules give the same outcome at each number below a bound, by a test that is computed at each.
-- Assumes nothing.
use mathlib.Core.Path.{◌≡◌, refl}
use mathlib.Core.Bool.{Bool, true, false, ◌&&◌, beq}
use Prim.Native.Nat.{ℕ, ◌<◌}
use lib.Dec.{T, eqb, eqb→eq}
use Rattle.laws.specs.Every.{every}
use Rattle.laws.proofs.Every.{every_at_lem, and_left, and_right}
use Rattle.alu.specs.declared.Outcome.{Outcome}

abbrev pub same : Outcome → Outcome → Bool
same a b = eqb a.result b.result && beq a.carry b.carry

same_bit : (a b : Bool) → T (beq a b) → a ≡ b
same_bit true true t = refl
same_bit true false t = absurd t
same_bit false true t = absurd t
same_bit false false t = refl

same_outcome : (a b : Outcome) → T (same a b) → a ≡ b
same_outcome a b t =
    let r = eqb a.result b.result in
    let k = beq a.carry b.carry in
    λ i. record {
      result = eqb→eq a.result b.result (and_left r k t) i;
      carry = same_bit a.carry b.carry (and_right r k t) i;
    }

pub agree : (f g : ℕ → Outcome) (n : ℕ) → T (every (λ (k : ℕ). same (f k) (g k)) n) → (k : ℕ) → k < n → f k ≡ g k
agree f g n t k h = same_outcome (f k) (g k) (every_at_lem (λ (j : ℕ). same (f j) (g j)) n t k h)
