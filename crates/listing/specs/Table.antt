-- The manual's list of the instruction set (18.3), its rows from 0 to 46. A row has what stands in the list's column "Operand", in
-- that order, but for the names WR, DBF, AR and IX, which are the same in every word of the row.
-- Assumes nothing.
use Rattle.std.specs.Prelude.{ℕ, ◌+◌, ◌*◌, ◌/◌, ◌%◌, List, [], ◌∷◌, slice_index_or}
use Rattle.isa.specs.declared.AluOp.TheVariants.{Add, AddC, Sub, SubC, Or, And, Xor}
use Rattle.isa.specs.declared.SkipOp.TheVariants.{Skt, Skf, Ske, Skne, Skge, Sklt}
use Rattle.isa.specs.declared.FixedOp.{FixedOp}
use Rattle.isa.specs.declared.FixedOp.TheVariants.{IncAr, IncIx, Movt, PushAr, PopAr, BrAr, CallAr, Ret, Retsk, Reti, Ei, Di, Nop}
use Rattle.isa.specs.declared.Instruction.{Instruction}
use Rattle.isa.specs.declared.Instruction.TheVariants.{AluRegister, AluImmediate, Skip, Rorc, Ld, St, MovToIndirect, MovFromIndirect, MovImmediate, Peek, Poke, Get, Put, Br, Call, Stop, Halt, Fixed}
use Rattle.listing.specs.declared.table.Fields.{Fields}
use Rattle.listing.specs.declared.table.Format.{Format}
use Rattle.listing.specs.declared.table.Format.TheVariants.{Plain, Rm, Mn, Nibble, Split, Target}

-- where the operands stand in the row's words, and its instruction
pub record Row : Type 0 where
  pub format : Format
  pub instruction : Fields → Instruction

-- no operand
abbrev pub plain : FixedOp → Row
plain op = record { format = Plain; instruction = λ o. Fixed op }

-- r and m
abbrev pub rm : (ℕ → ℕ → Instruction) → Row
rm f = record { format = Rm; instruction = λ o. f o.first o.second }

-- m and n4, n or r
abbrev pub mn : (ℕ → ℕ → Instruction) → Row
mn f = record { format = Mn; instruction = λ o. f o.first o.second }

-- r, s or h
abbrev pub nibble : (ℕ → Instruction) → Row
nibble f = record { format = Nibble; instruction = λ o. f o.first }

-- rf or p
abbrev pub split : (ℕ → Instruction) → Row
split f = record { format = Split; instruction = λ o. f o.first }

-- addr
abbrev pub target : (ℕ → Instruction) → Row
target f = record { format = Target; instruction = λ o. f o.addr }

unfoldable pub listing : List Row
listing =
    -- Add
    rm (AluRegister Add)
    ∷ mn (AluImmediate Add)
    ∷ rm (AluRegister AddC)
    ∷ mn (AluImmediate AddC)
    ∷ plain IncAr
    ∷ plain IncIx
    -- Subtract
    ∷ rm (AluRegister Sub)
    ∷ mn (AluImmediate Sub)
    ∷ rm (AluRegister SubC)
    ∷ mn (AluImmediate SubC)
    -- Logical operation
    ∷ rm (AluRegister Or)
    ∷ mn (AluImmediate Or)
    ∷ rm (AluRegister And)
    ∷ mn (AluImmediate And)
    ∷ rm (AluRegister Xor)
    ∷ mn (AluImmediate Xor)
    -- Test
    ∷ mn (Skip Skt)
    ∷ mn (Skip Skf)
    -- Compare
    ∷ mn (Skip Ske)
    ∷ mn (Skip Skne)
    ∷ mn (Skip Skge)
    ∷ mn (Skip Sklt)
    -- Rotate
    ∷ nibble Rorc
    -- Transfer
    ∷ rm Ld
    ∷ mn St
    ∷ rm MovToIndirect
    ∷ mn MovFromIndirect
    ∷ mn MovImmediate
    ∷ plain Movt
    ∷ plain PushAr
    ∷ plain PopAr
    ∷ split Peek
    ∷ split Poke
    ∷ split Get
    ∷ split Put
    -- Branch
    ∷ target Br
    ∷ plain BrAr
    -- Subroutine
    ∷ target Call
    ∷ plain CallAr
    ∷ plain Ret
    ∷ plain Retsk
    ∷ plain Reti
    -- Interrupt
    ∷ plain Ei
    ∷ plain Di
    -- Others
    ∷ nibble Stop
    ∷ nibble Halt
    ∷ plain Nop
    ∷ []

-- past the list NOP, where nothing asks: a row is tested first
abbrev pub row_at : ℕ → Row
row_at row = slice_index_or listing row (plain Nop)

abbrev pub fields : ℕ → ℕ → ℕ → Fields
fields a b addr = record { first = a; second = b; addr = addr }

-- what stands in the operands' fields of a word: m in seven bits before the last four, rf and p in the three of the row and the
-- last four, addr in the last eleven, and any other in the last four
abbrev pub fields_in : Format → ℕ → Fields
fields_in Plain w = fields 0 0 0
fields_in Rm w = fields (w % 16) (w / 16 % 128) 0
fields_in Mn w = fields (w / 16 % 128) (w % 16) 0
fields_in Nibble w = fields (w % 16) 0 0
fields_in Split w = fields (w / 256 % 8 * 16 + w % 16) 0 0
fields_in Target w = fields 0 0 (w % 2048)
