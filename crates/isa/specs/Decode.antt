-- The instruction that a word is: the manual's overview of the instruction set (18.1), line by line, and the words of
-- its line 7 from the list (18.3), by column and row.
-- Assumes nothing.
use Rattle.std.specs.Prelude.{ℕ, ◌+◌, ◌*◌, ◌/◌, ◌%◌, cond, List, [], ◌∷◌, eqb, get_or}
use Rattle.isa.specs.Answers.{Decoding, is, refused}
use Rattle.isa.specs.declared.AluOp.TheVariants.{Add, AddC, Sub, SubC, Or, And, Xor}
use Rattle.isa.specs.declared.SkipOp.TheVariants.{Skt, Skf, Ske, Skne, Skge, Sklt}
use Rattle.isa.specs.declared.FixedOp.{FixedOp}
use Rattle.isa.specs.declared.FixedOp.TheVariants.{IncAr, IncIx, Movt, PushAr, PopAr, BrAr, CallAr, Ret, Retsk, Reti, Ei, Di, Nop}
use Rattle.isa.specs.declared.Instruction.{Instruction}
use Rattle.isa.specs.declared.Instruction.TheVariants.{AluRegister, AluImmediate, Skip, Rorc, Ld, St, MovToIndirect, MovFromIndirect, MovImmediate, Peek, Poke, Get, Put, Br, Call, Stop, Halt, Fixed}

-- "Every other word is no instruction."
abbrev pub none : Decoding
none = refused 3

-- The group: opcode 00111, a row of three bits, a column of four, a low nibble.

-- what a column and a row make of the low nibble
abbrev pub Slot : Type 0
Slot = ℕ → Decoding

abbrev pub blank : Slot
blank x = none

-- no operand: the low nibble is 0
abbrev pub plain : FixedOp → Slot
plain op x = cond (eqb x 0) (is (Fixed op)) none

-- the low nibble is the operand
abbrev pub nibble : (ℕ → Instruction) → Slot
nibble f x = is (f x)

abbrev pub Column : Type 0
Column = ℕ → Slot

-- the slots of a column, from row 0 on
abbrev pub rows : List Slot → Column
rows slots row = get_or slots row blank

-- the operand's upper three bits are the row and its lower four the low nibble
abbrev pub whole : (ℕ → Instruction) → Column
whole f row x = is (f (row * 16 + x))

unfoldable pub columns : List Column
columns =
    rows []
    ∷ rows (plain Movt ∷ [])
    ∷ whole Poke
    ∷ whole Peek
    ∷ rows (plain BrAr ∷ [])
    ∷ rows (plain CallAr ∷ [])
    ∷ rows []
    ∷ rows (nibble Rorc ∷ [])
    ∷ rows (plain IncIx ∷ [])
    ∷ rows (plain IncAr ∷ [])
    ∷ whole Put
    ∷ whole Get
    ∷ rows (plain PopAr ∷ [])
    ∷ rows (plain PushAr ∷ [])
    ∷ rows (plain Ret ∷ plain Retsk ∷ blank ∷ blank ∷ plain Reti ∷ [])
    ∷ rows (plain Ei ∷ plain Di ∷ nibble Stop ∷ nibble Halt ∷ plain Nop ∷ [])
    ∷ []

-- row and column as one number, and the low nibble
abbrev pub group_of : ℕ → ℕ → Decoding
group_of m x = get_or columns (m % 16) (rows []) (m / 16) x

-- The overview: b15 to b11 choose, and the rest is an address m and a nibble, or an address of eleven bits.

abbrev pub Entry : Type 0
Entry = ℕ → ℕ → ℕ → Decoding

abbrev pub empty : Entry
empty m x addr = none

abbrev pub group : Entry
group m x addr = group_of m x

-- m and n4
abbrev pub mn : (ℕ → ℕ → Instruction) → Entry
mn f m x addr = is (f m x)

-- r and m
abbrev pub rm : (ℕ → ℕ → Instruction) → Entry
rm f m x addr = is (f x m)

abbrev pub target : (ℕ → Instruction) → Entry
target f m x addr = is (f addr)

-- for each value of b14 to b11 the entries for b15 = 0 and for b15 = 1
unfoldable pub overview : List (List Entry)
overview =
    (rm (AluRegister Add) ∷ mn (AluImmediate Add) ∷ [])
    ∷ (rm (AluRegister Sub) ∷ mn (AluImmediate Sub) ∷ [])
    ∷ (rm (AluRegister AddC) ∷ mn (AluImmediate AddC) ∷ [])
    ∷ (rm (AluRegister SubC) ∷ mn (AluImmediate SubC) ∷ [])
    ∷ (rm (AluRegister And) ∷ mn (AluImmediate And) ∷ [])
    ∷ (rm (AluRegister Xor) ∷ mn (AluImmediate Xor) ∷ [])
    ∷ (rm (AluRegister Or) ∷ mn (AluImmediate Or) ∷ [])
    ∷ (group ∷ empty ∷ [])
    ∷ (rm Ld ∷ mn St ∷ [])
    ∷ (mn (Skip Ske) ∷ mn (Skip Skge) ∷ [])
    ∷ (rm MovToIndirect ∷ mn MovFromIndirect ∷ [])
    ∷ (mn (Skip Skne) ∷ mn (Skip Sklt) ∷ [])
    ∷ (target Br ∷ target Call ∷ [])
    ∷ (empty ∷ mn MovImmediate ∷ [])
    ∷ (empty ∷ mn (Skip Skt) ∷ [])
    ∷ (empty ∷ mn (Skip Skf) ∷ [])
    ∷ []

-- the entry of an opcode of five bits
unfoldable pub entry_of : ℕ → Entry
entry_of op = get_or (get_or overview (op % 16) []) (op / 16) empty

unfoldable pub decode_of : ℕ → Decoding
decode_of w = entry_of (w / 2048) (w / 16 % 128) (w % 16) (w % 2048)
