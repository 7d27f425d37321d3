-- Bits of several bytes joined by OR make a nibble where each byte is one.
-- Assumes nothing.
use mathlib.Core.Path.{◌≡◌, refl}
use mathlib.Core.List.{List, [], ◌∷◌}
use mathlib.Core.Bool.{Bool, true, false, ◌&&◌, and_comm}
use Prim.Native.Nat.{ℕ, suc, ◌+◌, ◌≤◌}
use Rattle.std.proofs.Common.{add-zero}
use native.Mathlib.Numerals.{add-one}
use native.Mathlib.Omega.{arith}
use borrow.Author.Tests.{lt-ltb, le-ltb, ltb-true, ltb-false}
use lib.Bits.{bit_or, or_lt, or_add_and, and_le_r, or_comm}
use lib.Dec.{ltb}
use lib.ListN.{get_or, length}
use Rattle.std.specs.List.{fold}
use Rattle.laws.specs.Every.{every}
use Rattle.machine.specs.Ranges.{is_nibble}

-- OR keeps every bit
more : (a b : ℕ) → a ≤ bit_or a b
more a b = omega (arith, or_add_and a b, and_le_r a b)

by_parts : (a b : ℕ) (p q : Bool) → ltb a 16 ≡ p → ltb b 16 ≡ q → ltb (bit_or a b) 16 ≡ (p && q)
by_parts a b true true p q = lt-ltb (bit_or a b) 16 (or_lt 4 a b (ltb-true a 16 p) (ltb-true b 16 q))
by_parts a b true false p q = le-ltb (bit_or a b) 16 (rw or_comm (let h : 16 ≤ b = ltb-false b 16 q in omega (arith, more b a)))
by_parts a b false q p r = le-ltb (bit_or a b) 16 (let h : 16 ≤ a = ltb-false a 16 p in omega (arith, more a b))

pub or_nibble : (a b : ℕ) → ltb (bit_or a b) 16 ≡ (ltb a 16 && ltb b 16)
or_nibble a b = by_parts a b (ltb a 16) (ltb b 16) refl refl

-- one byte more
pub one_more : (xs : List ℕ) (i bits : ℕ) → ltb bits 16 ≡ every (is_nibble xs) i
    → ltb (bit_or bits (get_or xs i 0)) 16 ≡ every (is_nibble xs) (i + 1)
one_more xs i bits e = rw (add-one i, or_nibble, e) (and_comm (every (is_nibble xs) i) (is_nibble xs i))

-- joined from a place on
onward : (n : ℕ) (xs rest : List ℕ) (i bits : ℕ) → i + length rest ≡ n → ((k : ℕ) → get_or rest k 0 ≡ get_or xs (i + k) 0)
    → ltb bits 16 ≡ every (is_nibble xs) i → ltb (fold (λ (a : ℕ) (x : ℕ). bit_or a x) bits rest) 16 ≡ every (is_nibble xs) n
onward n xs [] i bits l at e = let q : i ≡ n = omega arith in rw q at e
onward n xs (x ∷ rest) i bits l at e =
    let here : x ≡ get_or xs i 0 = rw add-zero at (at 0) in
    onward n xs rest (i + 1) (bit_or bits x) (omega arith)
    (λ k. let q : i + suc k ≡ (i + 1) + k = omega arith in rw q at (at (suc k)))
    (rw here (one_more xs i bits e))

pub all_joined : (xs : List ℕ) (n : ℕ) → length xs ≡ n → ltb (fold (λ (a : ℕ) (x : ℕ). bit_or a x) 0 xs) 16 ≡ every (is_nibble xs) n
all_joined xs n l = onward n xs xs 0 0 (omega arith) (λ k. let q : 0 + k ≡ k = omega arith in rw q refl) refl
