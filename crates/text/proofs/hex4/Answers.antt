use Rattle.std.proofs.Common.{◌≡◌, ℕ, ◌/◌, ◌%◌, arith}
use Rattle.text.specs.Hex.{hex_digit_of, hex_digits_of}
use Rattle.text.proofs.hex4.Goals as goal

-- the half of a byte as the sixteen bits have it
first : (n : ℕ) → n / 256 % 256 / 16 % 16 ≡ n / 4096 % 16
first n = omega arith

second : (n : ℕ) → n / 256 % 256 % 16 ≡ n / 256 % 16
second n = omega arith

third : (n : ℕ) → n % 256 / 16 % 16 ≡ n / 16 % 16
third n = omega arith

fourth : (n : ℕ) → n % 256 % 16 ≡ n % 16
fourth n = omega arith

pub returns : goal.returns
unfolding hex_digits_of hex_digit_of
returns c =
    simp (
      c.hex_digit.ensures,
      c.hex_digit-2.ensures,
      c.hex_digit-3.ensures,
      c.hex_digit-4.ensures,
      c.to_be_bytes.ensures,
      first,
      second,
      third,
      fourth,
    )
