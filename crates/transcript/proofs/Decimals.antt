-- The digits of a number in decimal.
-- Assumes nothing.
use mathlib.Core.Path.{◌≡◌, ◌∙◌, refl, sym, ap}
use mathlib.Core.Bool.{Bool, true, false}
use mathlib.Core.List.{List, [], ◌∷◌, ◌++◌}
use Prim.Native.Nat.{ℕ, zero, suc, ◌+◌, ◌/◌, ◌%◌, ◌^◌, ◌<◌, ◌≤◌}
use native.Mathlib.Omega.{arith}
use lib.Dec.{eqb, ltb}
use lib.ListN.{get_or}
use borrow.Author.Tests.{eqb-true, ltb-false, lt-ltb, le-ltb}
use Rattle.std.specs.Fmt.{decimal as std_decimal}
use Rattle.std.proofs.lemmas.Fmt.{decimal_by_steps}
use Rattle.laws.proofs.Every.{every_at_lem, holds}
use Rattle.text.specs.Hex.{codes, hex_digit_of}
use Rattle.transcript.specs.Text.{decimal_places, decimal}

-- more places than are needed change nothing
enough : (p q n : ℕ) → n < p → n < q → decimal_places p n ≡ decimal_places q n
enough zero q n h k = absurd (omega arith)
enough (suc p) zero n h k = absurd (omega arith)
enough (suc p) (suc q) n h k = by (λ (t : 10 ≤ n). enough p q (n / 10) (omega arith) (omega arith)) (ltb n 10) refl
  where
    by : (10 ≤ n → decimal_places p (n / 10) ≡ decimal_places q (n / 10)) → (b : Bool) → ltb n 10 ≡ b → decimal_places (suc p) n ≡ decimal_places (suc q) n
    by f true e = rw e
    by f false e = rw e (ap (λ (l : List ℕ). l ++ (hex_digit_of (n % 10) ∷ [])) (f (ltb-false n 10 e)))

module _ (n : ℕ) where
  pub one_digit : n < 10 → decimal n ≡ hex_digit_of n ∷ []
  unfolding decimal
  one_digit h = rw (lt-ltb n 10 h)

  pub last_digit : 10 ≤ n → decimal n ≡ decimal (n / 10) ++ (hex_digit_of (n % 10) ∷ [])
  unfolding decimal
  last_digit h =
      rw (le-ltb n 10 h) (ap (λ (l : List ℕ). l ++ (hex_digit_of (n % 10) ∷ [])) (enough n (suc (n / 10)) (n / 10) (omega arith) (omega arith)))

-- the digits of std are these
is_code : ℕ → Bool
is_code d = eqb (get_or codes d 0) (48 + d)

digit_code : (d : ℕ) → d < 10 → hex_digit_of d ≡ 48 + d
unfolding is_code codes hex_digit_of
digit_code d h =
    let e : d % 16 ≡ d = omega arith in
    rw e (eqb-true _ _ (holds (every_at_lem is_code 10 tt d h)))

pub std_same : (n : ℕ) → n < 2 ^ 64 → std_decimal n ≡ decimal n
std_same =
    decimal_by_steps (λ m ds. ds ≡ decimal m)
    (λ m l. sym (one_digit m l ∙ ap (λ (d : ℕ). d ∷ []) (digit_code m l)))
    (λ m ds l e.
    ap (λ (xs : List ℕ). xs ++ ((48 + m % 10) ∷ [])) e
    ∙ ap (λ (d : ℕ). decimal (m / 10) ++ (d ∷ [])) (sym (digit_code (m % 10) (omega arith)))
    ∙ sym (last_digit m l))
