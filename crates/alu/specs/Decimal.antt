-- Decimal results: document 01, "Results", the line "BCD set".
-- Assumes nothing.
use Rattle.std.specs.Prelude.{true, false, cond, List, [], ◌∷◌, ℕ, ◌-◌, ltb, leb, get_or}
use Rattle.alu.specs.Difference.{Difference, plus, minus}
use Rattle.alu.specs.declared.Outcome.{Outcome}

-- sums 20 to 31
unfoldable pub above19 : List ℕ
above19 = 0xE ∷ 0xF ∷ 0xC ∷ 0xD ∷ 0xE ∷ 0xF ∷ 0xC ∷ 0xD ∷ 0xA ∷ 0xB ∷ 0xC ∷ 0xD ∷ []

-- "sums 0 to 9 as they are, CY 0; 10 to 19 less ten, CY 1; then CY 1" and the row above
unfoldable pub decimal_sum : ℕ → Outcome
decimal_sum n =
    cond (ltb n 10)
    (record { result = n; carry = false })
    (cond (ltb n 20)
    (record { result = n - 10; carry = true })
    (record { result = get_or above19 (n - 20) 0; carry = true }))

-- differences 10 to 15
unfoldable pub above9 : List ℕ
above9 = 0xC ∷ 0xD ∷ 0xE ∷ 0xF ∷ 0xC ∷ 0xD ∷ []

-- differences -16 to -11
unfoldable pub below_10 : List ℕ
below_10 = 0xE ∷ 0xF ∷ 0xC ∷ 0xD ∷ 0xE ∷ 0xF ∷ []

-- "Differences 0 to 9 as they are, CY 0; all others CY 1": 10 to 15 and -16 to -11 by their rows, -10 to -1 give 0 to 9
unfoldable pub decimal_difference : Difference → Outcome
decimal_difference (plus n) =
    cond (ltb n 10) (record { result = n; carry = false }) (record { result = get_or above9 (n - 10) 0; carry = true })
decimal_difference (minus n) =
    cond (leb n 10)
    (record { result = 10 - n; carry = true })
    (record { result = get_or below_10 (16 - n) 0; carry = true })
