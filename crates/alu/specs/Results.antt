-- What each operation yields: document 01, "Results".
-- Assumes nothing.
use Rattle.std.specs.Prelude.{Bool, true, false, not, cond, ℕ, ◌+◌, ◌-◌, ◌*◌, ◌/◌, ◌%◌, eqb, ltb, leb}
use Rattle.std.specs.Int.Bits.{bit_and, bit_or, bit_xor}
use Rattle.isa.specs.declared.AluOp.{AluOp}
use Rattle.isa.specs.declared.AluOp.TheVariants.{Add, AddC, Sub, SubC, Or, And, Xor}
use Rattle.isa.specs.declared.SkipOp.{SkipOp}
use Rattle.isa.specs.declared.SkipOp.TheVariants.{Skt, Skf, Ske, Skne, Skge, Sklt}
use Rattle.laws.specs.Bit.{bit}
use Rattle.alu.specs.Decimal.{decimal_sum, decimal_difference}
use Rattle.alu.specs.Difference.{Difference, plus, minus, difference_of}
use Rattle.alu.specs.declared.Outcome.{Outcome}

-- An operand of a sum, a difference or a rotation is a nibble: of a byte out of range its low four bits.
abbrev pub nibble : ℕ → ℕ
nibble x = x % 16

-- "Binary: CY is a sum above 15 or a difference below 0; the result is the low nibble"
unfoldable pub binary_sum : ℕ → Outcome
binary_sum n = record { result = n % 16; carry = ltb 15 n }

unfoldable pub binary_difference : Difference → Outcome
binary_difference (plus n) = record { result = n; carry = false }
binary_difference (minus n) = record { result = 16 - n; carry = true }

unfoldable pub add_of : Bool → ℕ → ℕ → Bool → Outcome
add_of bcd a b carry =
    let n = nibble a + nibble b + bit carry in
    cond bcd (decimal_sum n) (binary_sum n)

unfoldable pub subtract_of : Bool → ℕ → ℕ → Bool → Outcome
subtract_of bcd a b carry =
    let d = difference_of (nibble a) (nibble b) (bit carry) in
    cond bcd (decimal_difference d) (binary_difference d)

-- "ADDC adds CY; SUBC takes it away". AND, OR and XOR leave CY.
unfoldable pub operate_of : AluOp → Bool → ℕ → ℕ → Bool → Outcome
operate_of Add bcd a b carry = add_of bcd a b false
operate_of AddC bcd a b carry = add_of bcd a b carry
operate_of Sub bcd a b carry = subtract_of bcd a b false
operate_of SubC bcd a b carry = subtract_of bcd a b carry
operate_of Or bcd a b carry = record { result = bit_or a b; carry = carry }
operate_of And bcd a b carry = record { result = bit_and a b; carry = carry }
operate_of Xor bcd a b carry = record { result = bit_xor a b; carry = carry }

-- "RORC: CY to bit 3, bit 0 to CY"
unfoldable pub rotate_of : ℕ → Bool → Outcome
rotate_of x carry = record { result = bit carry * 8 + nibble x / 2; carry = eqb (x % 2) 1 }

-- "Z: a result other than 0 clears it; a result of 0 sets it with CMP 0, and with CMP 1 leaves it"
unfoldable pub zero_of : Bool → Bool → ℕ → Bool
zero_of cmp z result = cond (eqb result 0) (cond cmp z true) false

-- "SKT skips when every bit set in n is 1 in m, SKF when every one is 0"; the other four compare m with n4
unfoldable pub condition_of : SkipOp → ℕ → ℕ → Bool
condition_of Skt m n = eqb (bit_and m n) n
condition_of Skf m n = eqb (bit_and m n) 0
condition_of Ske m n4 = eqb m n4
condition_of Skne m n4 = not (eqb m n4)
condition_of Skge m n4 = leb n4 m
condition_of Sklt m n4 = ltb m n4
