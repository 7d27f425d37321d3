-- The words of opcode 7, as the decoder reads them: a column, or a sub-word of eleven bits.
-- Assumes nothing.
use mathlib.Core.Path.{◌≡◌}
use mathlib.Core.List.{List, [], ◌∷◌}
use mathlib.Core.Bool.{Bool, ◌||◌}
use mathlib.Core.Logic.{inl, inr}
use Prim.Native.Nat.{ℕ, ◌+◌, ◌*◌, ◌/◌, ◌%◌, ◌<◌, ◌≤◌}
use native.Mathlib.Omega.{arith}
use Rattle.laws.proofs.Arms.{Span, Rest, AllOutside, singly, has_any, or_else, no_key, in_rest}
use Rattle.isa.proofs.None.{is_none, is_none_lem}
use Rattle.isa.specs.Decode.{columns, group_of, none}

pub column_of : (w : ℕ) → w / 16 % 128 % 16 ≡ w / 16 % 16
column_of w = omega arith

pub row_of : (w : ℕ) → w / 16 % 128 / 16 ≡ w / 256 % 8
row_of w = omega arith

pub sub_m : (w : ℕ) → w / 16 % 128 ≡ w % 2048 / 16
sub_m w = omega arith

pub sub_x : (w : ℕ) → w % 16 ≡ w % 2048 % 16
sub_x w = omega arith

sub_column : (w : ℕ) → w % 2048 / 16 % 16 ≡ w / 16 % 16
sub_column w = omega arith

sub_below : (w : ℕ) → w % 2048 < 2048
sub_below w = omega arith

-- the entry of a sub-word
pub at_sub : (w k : ℕ) → w % 2048 ≡ k → group_of (k / 16) (k % 16) ≡ group_of (w / 16 % 128) (w % 16)
at_sub w k e = rw (sub_m w, sub_x w, e)

-- the sixteen sub-words of a row and a column
pub sixteen : (m w : ℕ) → m * 16 ≤ w % 2048 → w % 2048 < (m + 1) * 16 → w / 16 % 128 ≡ m
sixteen m w a b = omega arith

-- the decoder's arms, the last one first: columns, sub-words, and RORC, STOP and HALT
abbrev pub column_keys : List (List ℕ)
column_keys = singly (0b1011 ∷ 0b1010 ∷ 0b0011 ∷ 0b0010 ∷ [])

abbrev pub sub_keys : List (List ℕ)
sub_keys =
    singly
    (0b100_1111_0000 ∷ 0b001_1111_0000 ∷ 0b000_1111_0000 ∷ 0b100_1110_0000 ∷ 0b001_1110_0000 ∷ 0b000_1110_0000 ∷ 0b000_1101_0000
    ∷ 0b000_1100_0000 ∷ 0b000_1001_0000 ∷ 0b000_1000_0000 ∷ 0b000_0101_0000 ∷ 0b000_0100_0000 ∷ 0b000_0001_0000 ∷ [])

abbrev pub spans : List Span
spans =
    record { first = 0b000_0111_0000; last = 0b000_0111_1111 }
    ∷ record { first = 0b010_1111_0000; last = 0b010_1111_1111 }
    ∷ record { first = 0b011_1111_0000; last = 0b011_1111_1111 }
    ∷ []

-- below, between and above RORC, STOP and HALT
pub gap₁ : (sub : ℕ) → sub < 0b000_0111_0000 → AllOutside spans sub
gap₁ sub a = (inl a, (inl (omega arith), (inl (omega arith), tt)))

pub gap₂ : (sub : ℕ) → 0b000_1000_0000 ≤ sub → sub < 0b010_1111_0000 → AllOutside spans sub
gap₂ sub a b = (inr a, (inl b, (inl (omega arith), tt)))

pub gap₃ : (sub : ℕ) → 0b011_0000_0000 ≤ sub → sub < 0b011_1111_0000 → AllOutside spans sub
gap₃ sub a b = (inr (omega arith), (inr a, (inl b, tt)))

pub gap₄ : (sub : ℕ) → 0b100_0000_0000 ≤ sub → AllOutside spans sub
gap₄ sub a = (inr (omega arith), (inr (omega arith), (inr a, tt)))

-- a sub-word in none of the columns of PEEK, POKE, GET and PUT that is no instruction
abbrev clear : ℕ → Bool
clear sub = has_any column_keys (sub / 16 % 16) || is_none (group_of (sub / 16) (sub % 16))

-- what no arm takes is no instruction: tested at each of the 2,048 sub-words
pub unlisted : (w : ℕ) → Rest column_keys (w / 16 % 16) → Rest sub_keys (w % 2048) → AllOutside spans (w % 2048)
    → none ≡ group_of (w / 16 % 128) (w % 16)
unfolding columns
unlisted w rc rs o =
    let sub : ℕ = w % 2048 in
    rw (sub_m w, sub_x w)
    (is_none_lem (group_of (sub / 16) (sub % 16))
    (or_else (has_any column_keys (sub / 16 % 16)) (is_none (group_of (sub / 16) (sub % 16)))
    (rw sub_column (no_key column_keys (w / 16 % 16) rc))
    (in_rest sub_keys spans clear 2048 tt sub (sub_below w) rs o)))
