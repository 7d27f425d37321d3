-- Hexadecimal digits in ASCII, upper case.
-- Assumes nothing.
use Rattle.std.specs.Prelude.{List, [], ◌∷◌, ℕ, ◌/◌, ◌%◌, get_or}

-- 0 to 9 are 30H to 39H, A to F are 41H to 46H
unfoldable pub codes : List ℕ
codes =
    0x30 ∷ 0x31 ∷ 0x32 ∷ 0x33 ∷ 0x34 ∷ 0x35 ∷ 0x36 ∷ 0x37
    ∷ 0x38 ∷ 0x39 ∷ 0x41 ∷ 0x42 ∷ 0x43 ∷ 0x44 ∷ 0x45 ∷ 0x46 ∷ []

-- the digit of a number's low four bits
unfoldable pub hex_digit_of : ℕ → ℕ
hex_digit_of n = get_or codes (n % 16) 0

-- the four digits of its low sixteen bits, the highest first
unfoldable pub hex_digits_of : ℕ → List ℕ
hex_digits_of n = hex_digit_of (n / 4096) ∷ hex_digit_of (n / 256) ∷ hex_digit_of (n / 16) ∷ hex_digit_of n ∷ []
