-- The rows of the maker's table: decimal and binary outcomes by computed tests, and the row of a difference by arithmetic.
-- Assumes nothing.
use mathlib.Core.Path.{◌≡◌, refl}
use mathlib.Core.Bool.{Bool, true, false}
use Prim.Native.Nat.{ℕ, ◌+◌, ◌-◌, ◌%◌, ◌<◌, ◌≤◌}
use native.Mathlib.Omega.{arith}
use borrow.Author.Tests.{lt-ltb, le-ltb, leb-true, leb-false}
use lib.Dec.{ltb, leb}
use lib.ListN.{get_or}
use mir.Val.{bool_byte}
use Rattle.alu.specs.Decimal.{decimal_sum, decimal_difference, above19, above9, below_10}
use Rattle.alu.specs.Difference.{difference_of}
use Rattle.alu.specs.Results.{nibble, binary_difference}
use Rattle.laws.specs.Bit.{bit}
use Rattle.alu.specs.Rows.{sum_rows, difference_rows, row_difference, row_outcome}
use Rattle.alu.specs.declared.Outcome.{Outcome}
use Rattle.alu.proofs.Agree.{agree}
use Rattle.laws.proofs.Bits.{byte_bit, byte_below}

-- the table's rule: at each row, in the table's order, a test is computed
pub sum_rule : (row : ℕ) → row < 32 → row_outcome (get_or sum_rows row 0) ≡ decimal_sum row
unfolding decimal_sum above19
sum_rule = agree (λ (k : ℕ). row_outcome (get_or sum_rows k 0)) decimal_sum 32 tt

pub difference_rule : (row : ℕ) → row < 32 → row_outcome (get_or difference_rows row 0) ≡ decimal_difference (row_difference row)
unfolding decimal_difference above9 below_10 row_difference
difference_rule = agree (λ (k : ℕ). row_outcome (get_or difference_rows k 0)) (λ (k : ℕ). decimal_difference (row_difference k)) 32 tt

abbrev low : ℕ → Outcome
low row = record { result = row % 16; carry = ltb 15 row }

pub binary_difference_lem : (row : ℕ) → row < 32 → low row ≡ binary_difference (row_difference row)
unfolding binary_difference row_difference
binary_difference_lem = agree low (λ (k : ℕ). binary_difference (row_difference k)) 32 tt

-- the row of a difference of two nibbles and a bit: the difference, or 32 more where it is below 0
row_of : (a b c : ℕ) → a < 16 → b < 16 → c ≤ 1 → row_difference ((32 + a - b - c) % 32) ≡ difference_of a b c
unfolding row_difference difference_of
row_of a b c ha hb hc = by_order (leb (b + c) a) refl
  where
    by_order : (t : Bool) → leb (b + c) a ≡ t → row_difference ((32 + a - b - c) % 32) ≡ difference_of a b c
    by_order true e =
        let h : b + c ≤ a = leb-true (b + c) a e in
        let r : (32 + a - b - c) % 32 ≡ a - (b + c) = omega arith in
        rw (r, lt-ltb (a - (b + c)) 16 (omega arith), e)
    by_order false e =
        let h : a < b + c = leb-false (b + c) a e in
        let r : (32 + a - b - c) % 32 ≡ 32 - (b + c - a) = omega arith in
        let d : 32 - (32 - (b + c - a)) ≡ b + c - a = omega arith in
        rw (r, le-ltb (32 - (b + c - a)) 16 (omega arith), e, d)

pub operands_row : (a b : ℕ) (carry : Bool)
    → row_difference ((32 + a % 16 - b % 16 - bool_byte carry) % 32) ≡ difference_of (nibble a) (nibble b) (bit carry)
operands_row a b carry =
    rw (← byte_bit) (row_of (a % 16) (b % 16) (bool_byte carry) (omega arith) (omega arith) (byte_below carry))
