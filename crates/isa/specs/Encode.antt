-- The word of an instruction: the manual's list of the instruction set (18.3), row by row and in its order.
-- Assumes nothing.
use Rattle.std.specs.Prelude.{ℕ, ◌+◌, ◌*◌, ◌/◌, ◌%◌, Bool, true, ◌&&◌, cond, ltb}
use Rattle.isa.specs.Answers.{Encoding}
use Rattle.isa.specs.declared.AluOp.{AluOp}
use Rattle.isa.specs.declared.AluOp.TheVariants.{Add, AddC, Sub, SubC, Or, And, Xor}
use Rattle.isa.specs.declared.SkipOp.{SkipOp}
use Rattle.isa.specs.declared.SkipOp.TheVariants.{Skt, Skf, Ske, Skne, Skge, Sklt}
use Rattle.isa.specs.declared.FixedOp.TheVariants.{IncAr, IncIx, Movt, PushAr, PopAr, BrAr, CallAr, Ret, Retsk, Reti, Ei, Di, Nop}
use Rattle.isa.specs.declared.Instruction.{Instruction}
use Rattle.isa.specs.declared.Instruction.TheVariants.{AluRegister, AluImmediate, Skip, Rorc, Ld, St, MovToIndirect, MovFromIndirect, MovImmediate, Peek, Poke, Get, Put, Br, Call, Stop, Halt, Fixed}

-- a machine code: five bits of OP code, three of row, four of column, four of r, n4, n, s or h
abbrev pub code : ℕ → ℕ → ℕ → ℕ → ℕ
code op row column low = op * 2048 + row * 256 + column * 16 + low

-- a machine code with the row and the column of a data memory address
abbrev pub addressed : ℕ → ℕ → ℕ → ℕ
addressed op m low = code op (m / 16) (m % 16) low

-- a machine code with the eleven bits of a program memory address
abbrev pub jump : ℕ → ℕ → ℕ
jump op addr = op * 2048 + addr

-- a machine code with the upper three bits of rf or p for its row and the lower four last
abbrev pub filed : ℕ → ℕ → ℕ
filed column p = code 0b00111 (p / 16) column (p % 16)

unfoldable pub word_of : Instruction → ℕ
-- Add
word_of (AluRegister Add r m) = addressed 0b00000 m r
word_of (AluImmediate Add m n4) = addressed 0b10000 m n4
word_of (AluRegister AddC r m) = addressed 0b00010 m r
word_of (AluImmediate AddC m n4) = addressed 0b10010 m n4
word_of (Fixed IncAr) = code 0b00111 0b000 0b1001 0b0000
word_of (Fixed IncIx) = code 0b00111 0b000 0b1000 0b0000
-- Subtract
word_of (AluRegister Sub r m) = addressed 0b00001 m r
word_of (AluImmediate Sub m n4) = addressed 0b10001 m n4
word_of (AluRegister SubC r m) = addressed 0b00011 m r
word_of (AluImmediate SubC m n4) = addressed 0b10011 m n4
-- Logical operation
word_of (AluRegister Or r m) = addressed 0b00110 m r
word_of (AluImmediate Or m n4) = addressed 0b10110 m n4
word_of (AluRegister And r m) = addressed 0b00100 m r
word_of (AluImmediate And m n4) = addressed 0b10100 m n4
word_of (AluRegister Xor r m) = addressed 0b00101 m r
word_of (AluImmediate Xor m n4) = addressed 0b10101 m n4
-- Test
word_of (Skip Skt m n) = addressed 0b11110 m n
word_of (Skip Skf m n) = addressed 0b11111 m n
-- Compare
word_of (Skip Ske m n4) = addressed 0b01001 m n4
word_of (Skip Skne m n4) = addressed 0b01011 m n4
word_of (Skip Skge m n4) = addressed 0b11001 m n4
word_of (Skip Sklt m n4) = addressed 0b11011 m n4
-- Rotate
word_of (Rorc r) = code 0b00111 0b000 0b0111 r
-- Transfer
word_of (Ld r m) = addressed 0b01000 m r
word_of (St m r) = addressed 0b11000 m r
word_of (MovToIndirect r m) = addressed 0b01010 m r
word_of (MovFromIndirect m r) = addressed 0b11010 m r
word_of (MovImmediate m n4) = addressed 0b11101 m n4
word_of (Fixed Movt) = code 0b00111 0b000 0b0001 0b0000
word_of (Fixed PushAr) = code 0b00111 0b000 0b1101 0b0000
word_of (Fixed PopAr) = code 0b00111 0b000 0b1100 0b0000
word_of (Peek rf) = filed 0b0011 rf
word_of (Poke rf) = filed 0b0010 rf
word_of (Get p) = filed 0b1011 p
word_of (Put p) = filed 0b1010 p
-- Branch
word_of (Br addr) = jump 0b01100 addr
word_of (Fixed BrAr) = code 0b00111 0b000 0b0100 0b0000
-- Subroutine
word_of (Call addr) = jump 0b11100 addr
word_of (Fixed CallAr) = code 0b00111 0b000 0b0101 0b0000
word_of (Fixed Ret) = code 0b00111 0b000 0b1110 0b0000
word_of (Fixed Retsk) = code 0b00111 0b001 0b1110 0b0000
word_of (Fixed Reti) = code 0b00111 0b100 0b1110 0b0000
-- Interrupt
word_of (Fixed Ei) = code 0b00111 0b000 0b1111 0b0000
word_of (Fixed Di) = code 0b00111 0b001 0b1111 0b0000
-- Others
word_of (Stop s) = code 0b00111 0b010 0b1111 s
word_of (Halt h) = code 0b00111 0b011 0b1111 h
word_of (Fixed Nop) = code 0b00111 0b100 0b1111 0b0000

-- the five bits of OP code of an operation on r,m and of a skip
abbrev pub alu_code : AluOp → ℕ
alu_code op = word_of (AluRegister op 0 0) / 2048

abbrev pub skip_code : SkipOp → ℕ
skip_code op = word_of (Skip op 0 0) / 2048

-- each operand fits its field: seven bits for m, rf and p, eleven for addr, four for the rest
unfoldable pub fits : Instruction → Bool
fits (AluRegister op r m) = ltb m 128 && ltb r 16
fits (AluImmediate op m n4) = ltb m 128 && ltb n4 16
fits (Skip op m n4) = ltb m 128 && ltb n4 16
fits (Rorc r) = ltb r 16
fits (Ld r m) = ltb m 128 && ltb r 16
fits (St m r) = ltb m 128 && ltb r 16
fits (MovToIndirect r m) = ltb m 128 && ltb r 16
fits (MovFromIndirect m r) = ltb m 128 && ltb r 16
fits (MovImmediate m n4) = ltb m 128 && ltb n4 16
fits (Peek rf) = ltb rf 128
fits (Poke rf) = ltb rf 128
fits (Get p) = ltb p 128
fits (Put p) = ltb p 128
fits (Br addr) = ltb addr 2048
fits (Call addr) = ltb addr 2048
fits (Stop s) = ltb s 16
fits (Halt h) = ltb h 16
fits (Fixed op) = true

-- document 01, refusal 10: an operand too large for its field; the encoder then answers word 0
abbrev pub fitted : Bool → ℕ → Encoding
fitted ok w = cond ok (record { refusal = 0; word = w }) (record { refusal = 10; word = 0 })

unfoldable pub encode_of : Instruction → Encoding
encode_of i = fitted (fits i) (word_of i)
