-- The parts of a line.
-- Assumes nothing.
use mathlib.Core.Path.{◌≡◌, refl}
use mathlib.Core.List.{List, [], ◌∷◌, ◌++◌, append_assoc}
use Prim.Native.Nat.{ℕ}
use native.Mathlib.Omega.{arith}
use lib.ListN.{length, get_or}
use Rattle.memory.specs.Names as names
use Rattle.text.specs.Hex.{hex_digit_of, hex_digits_of}
use Rattle.machine.specs.Parts.{cells_of}
use Rattle.machine.specs.declared.Machine.{Machine}
use Rattle.transcript.specs.Text.{space, newline, fail_text, hex1, hex3, decimal}
use Rattle.transcript.specs.Printing.{fields_of}
use Rattle.transcript.specs.Transcript.{line_of}

four_of : (w : List ℕ) → length w ≡ 4 → w ≡ get_or w 0 0 ∷ get_or w 1 0 ∷ get_or w 2 0 ∷ get_or w 3 0 ∷ []
four_of [] e = absurd (omega arith)
four_of (a ∷ []) e = absurd (omega arith)
four_of (a ∷ b ∷ []) e = absurd (omega arith)
four_of (a ∷ b ∷ c ∷ []) e = absurd (omega arith)
four_of (a ∷ b ∷ c ∷ d ∷ []) e = refl
four_of (a ∷ b ∷ c ∷ d ∷ f ∷ w) e = absurd (omega arith)

pub same_fields_lem : (pc : ℕ) (word : List ℕ) (after : Machine) (from to : List ℕ) (levels psw : ℕ) → length word ≡ 4
    → from ≡ hex_digits_of pc → to ≡ hex_digits_of after.control.pc → levels ≡ hex_digit_of after.control.levels
    → psw ≡ hex_digit_of (get_or (cells_of after) names.PSW 0)
    → space ∷ get_or from 1 0 ∷ get_or from 2 0 ∷ get_or from 3 0 ∷ space ∷ get_or word 0 0 ∷ get_or word 1 0 ∷ get_or word 2 0 ∷ get_or word 3 0
    ∷ space ∷ get_or to 1 0 ∷ get_or to 2 0 ∷ get_or to 3 0 ∷ space ∷ levels ∷ space ∷ psw ∷ 10 ∷ []
    ≡ fields_of pc word after
unfolding hex_digits_of
same_fields_lem pc word after from to levels psw h f t l p = rw (f, t, l, p, four_of word h)

regrouped : (a b c d e f g : List ℕ) → a ++ (b ++ c ++ d ++ e ++ f ++ g) ≡ a ++ b ++ c ++ d ++ e ++ f ++ g
regrouped a b c d e f g = simp append_assoc

pub line_of_lem : (n : ℕ) (word : List ℕ) (before after : Machine) → decimal n ++ fields_of before.control.pc word after ≡ line_of n word before after
line_of_lem n word before after =
    regrouped (decimal n) (space ∷ hex3 before.control.pc) (space ∷ word) (space ∷ hex3 after.control.pc)
    (space ∷ hex1 after.control.levels) (space ∷ hex1 (get_or (cells_of after) names.PSW 0)) newline

pub spaced : (a b : List ℕ) → a ++ (space ∷ []) ++ b ≡ a ++ (space ∷ b)
spaced a b = append_assoc a (space ∷ []) b

pub named_word : (word : ℕ) (d : List ℕ) → d ≡ hex_digits_of word
    → 0x46 ∷ 0x41 ∷ 0x49 ∷ 0x4C ∷ space ∷ get_or d 1 0 ∷ get_or d 2 0 ∷ get_or d 3 0 ∷ space ∷ [] ≡ fail_text ++ hex3 word ++ (space ∷ [])
unfolding hex_digits_of
named_word word d e = rw e
