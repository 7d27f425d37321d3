-- The texts that `station` prints, in ASCII: document 01, "Station file".
-- Assumes nothing.
use Rattle.std.specs.Prelude.{cond, List, [], ◌∷◌, ◌++◌, ℕ, zero, suc, ◌/◌, ◌%◌, ltb}
use Rattle.text.specs.Hex.{hex_digit_of}

abbrev pub space : ℕ
space = 0x20

abbrev pub newline : List ℕ
newline = 0x0A ∷ []

-- "FILE "
abbrev pub file_text : List ℕ
file_text = 0x46 ∷ 0x49 ∷ 0x4C ∷ 0x45 ∷ space ∷ []

-- "SHEET "
abbrev pub sheet_text : List ℕ
sheet_text = 0x53 ∷ 0x48 ∷ 0x45 ∷ 0x45 ∷ 0x54 ∷ space ∷ []

-- "NONE"
abbrev pub none_text : List ℕ
none_text = 0x4E ∷ 0x4F ∷ 0x4E ∷ 0x45 ∷ []

-- "PASS"
abbrev pub pass_text : List ℕ
pass_text = 0x50 ∷ 0x41 ∷ 0x53 ∷ 0x53 ∷ []

-- "FAIL "
abbrev pub fail_text : List ℕ
fail_text = 0x46 ∷ 0x41 ∷ 0x49 ∷ 0x4C ∷ space ∷ []

-- "END "
abbrev pub end_text : List ℕ
end_text = 0x45 ∷ 0x4E ∷ 0x44 ∷ space ∷ []

-- "----"
abbrev pub dashes : List ℕ
dashes = 0x2D ∷ 0x2D ∷ 0x2D ∷ 0x2D ∷ []

-- one hexadecimal digit, and three
abbrev pub hex1 : ℕ → List ℕ
hex1 n = hex_digit_of n ∷ []

abbrev pub hex3 : ℕ → List ℕ
hex3 n = hex_digit_of (n / 256) ∷ hex_digit_of (n / 16) ∷ hex_digit_of n ∷ []

-- a number in decimal, with no zero before it; n has at most n + 1 places
abbrev pub decimal_places : ℕ → ℕ → List ℕ
decimal_places zero n = []
decimal_places (suc places) n =
    cond (ltb n 10) (hex_digit_of n ∷ []) (decimal_places places (n / 10) ++ (hex_digit_of (n % 10) ∷ []))

unfoldable pub decimal : ℕ → List ℕ
decimal n = decimal_places (suc n) n
