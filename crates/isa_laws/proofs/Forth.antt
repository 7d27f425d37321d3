-- The word of an instruction whose operands fit has 16 bits and decodes to the instruction.
-- Assumes nothing.
use mathlib.Core.Path.{◌≡◌, refl, sym, ◌∙◌}
use mathlib.Core.Bool.{true, ◌&&◌}
use Prim.Native.Nat.{ℕ, ◌+◌, ◌*◌, ◌/◌, ◌%◌, ◌<◌}
use native.Mathlib.Omega.{arith}
use borrow.Author.Tests.{ltb-true}
use lib.Dec.{ltb, lit<}
use mathlib.Core.List.{[]}
use lib.ListN.{get_or}
use Rattle.laws.proofs.Booleans.{both}
use Rattle.isa.specs.Answers.{Decoding, is}
use Rattle.isa.specs.Decode.{decode_of, entry_of, overview, columns, rows}
use Rattle.isa.specs.Encode.{word_of, fits, code, addressed, jump, filed, alu_code, skip_code}
use Rattle.isa.specs.declared.AluOp.{AluOp}
use Rattle.isa.specs.declared.AluOp.TheVariants.{Add, AddC, Sub, SubC, Or, And, Xor}
use Rattle.isa.specs.declared.SkipOp.{SkipOp}
use Rattle.isa.specs.declared.SkipOp.TheVariants.{Skt, Skf, Ske, Skne, Skge, Sklt}
use Rattle.isa.specs.declared.FixedOp.{FixedOp}
use Rattle.isa.specs.declared.FixedOp.TheVariants.{IncAr, IncIx, Movt, PushAr, PopAr, BrAr, CallAr, Ret, Retsk, Reti, Ei, Di, Nop}
use Rattle.isa.specs.declared.Instruction.{Instruction}
use Rattle.isa.specs.declared.Instruction.TheVariants.{AluRegister, AluImmediate, Skip, Rorc, Ld, St, MovToIndirect, MovFromIndirect, MovImmediate, Peek, Poke, Get, Put, Br, Call, Stop, Halt, Fixed}
use Rattle.isa.proofs.Words
use Rattle.isa.proofs.Overview

-- a word of 16 bits that decodes to d
abbrev Reads : ℕ → Decoding → Type 0
Reads w d = (w < 65536) × (decode_of w ≡ d)

read_as : {w : ℕ} {d e : Decoding} → Reads w d → d ≡ e → Reads w e
read_as r e = (r.0, r.1 ∙ e)

fields : (op m x : ℕ) → op < 32 → m < 128 → x < 16 → Reads (addressed op m x) (entry_of op m x (m * 16 + x))
unfolding decode_of
fields op m x h a b =
    let w : ℕ = addressed op m x in
    let e₁ : w / 2048 ≡ op = omega arith in
    let e₂ : w / 16 % 128 ≡ m = omega arith in
    let e₃ : w % 16 ≡ x = omega arith in
    let e₄ : w % 2048 ≡ m * 16 + x = omega arith in
    (omega arith, rw (e₁, e₂, e₃, e₄))

with_address : (op m x : ℕ) → op < 32 → (ltb m 128 && ltb x 16) ≡ true
    → Reads (addressed op m x) (entry_of op m x (m * 16 + x))
with_address op m x h ok =
    let t = both (ltb m 128) (ltb x 16) ok in
    fields op m x h (ltb-true m 128 t.0) (ltb-true x 16 t.1)

with_target : (op addr : ℕ) → op < 32 → ltb addr 2048 ≡ true
    → Reads (jump op addr) (entry_of op (addr / 16) (addr % 16) addr)
unfolding decode_of
with_target op addr h ok =
    let a : addr < 2048 = ltb-true addr 2048 ok in
    let w : ℕ = jump op addr in
    let e₁ : w / 2048 ≡ op = omega arith in
    let e₂ : w / 16 % 128 ≡ addr / 16 = omega arith in
    let e₃ : w % 16 ≡ addr % 16 = omega arith in
    let e₄ : w % 2048 ≡ addr = omega arith in
    (omega arith, rw (e₁, e₂, e₃, e₄))

module _ (row column x : ℕ) (h : column < 16) where
  low : (row * 16 + column) % 16 ≡ column
  low = omega arith

  high : (row * 16 + column) / 16 ≡ row
  high = omega arith

  row_and_column : code 7 row column x ≡ addressed 7 (row * 16 + column) x
  row_and_column = rw (low, high)

around : (column p : ℕ) → column < 16 → ltb p 128 ≡ true
    → Reads (filed column p) (get_or columns column (rows []) (p / 16) (p % 16))
unfolding entry_of overview
around column p h ok =
    let a : p < 128 = ltb-true p 128 ok in
    let row : ℕ = p / 16 in
    let x : ℕ = p % 16 in
    rw (row_and_column row column x h)
    (read_as (fields 7 (row * 16 + column) x (lit< tt) (omega arith) (omega arith)) (rw (low row column x h, high row column x h)))

halves : (p : ℕ) → p / 16 * 16 + p % 16 ≡ p
halves p = omega arith

alu_below : (op : AluOp) → alu_code op < 16
unfolding word_of
alu_below Add = lit< tt
alu_below AddC = lit< tt
alu_below Sub = lit< tt
alu_below SubC = lit< tt
alu_below Or = lit< tt
alu_below And = lit< tt
alu_below Xor = lit< tt

skip_below : (op : SkipOp) → skip_code op < 32
unfolding word_of
skip_below Skt = lit< tt
skip_below Skf = lit< tt
skip_below Ske = lit< tt
skip_below Skne = lit< tt
skip_below Skge = lit< tt
skip_below Sklt = lit< tt

skip_at : (m x addr : ℕ) (op : SkipOp) → entry_of (skip_code op) m x addr ≡ is (Skip op m x)
unfolding word_of entry_of overview
skip_at m x addr Skt = refl
skip_at m x addr Skf = refl
skip_at m x addr Ske = refl
skip_at m x addr Skne = refl
skip_at m x addr Skge = refl
skip_at m x addr Sklt = refl

-- no operand: both sides compute
plain : (op : FixedOp) → Reads (word_of (Fixed op)) (is (Fixed op))
unfolding word_of decode_of entry_of overview columns
plain IncAr = (lit< tt, refl)
plain IncIx = (lit< tt, refl)
plain Movt = (lit< tt, refl)
plain PushAr = (lit< tt, refl)
plain PopAr = (lit< tt, refl)
plain BrAr = (lit< tt, refl)
plain CallAr = (lit< tt, refl)
plain Ret = (lit< tt, refl)
plain Retsk = (lit< tt, refl)
plain Reti = (lit< tt, refl)
plain Ei = (lit< tt, refl)
plain Di = (lit< tt, refl)
plain Nop = (lit< tt, refl)

pub forth : (i : Instruction) → fits i ≡ true → Reads (word_of i) (is i)
unfolding word_of fits entry_of overview columns
forth (AluRegister op r m) ok =
    rw (Words.register op r m)
    (read_as (with_address (alu_code op) m r (omega (arith, alu_below op)) ok) (sym (Overview.register_at m r (m * 16 + r) op)))
forth (AluImmediate op m n4) ok =
    rw (Words.immediate op m n4)
    (read_as (with_address (16 + alu_code op) m n4 (omega (arith, alu_below op)) ok) (sym (Overview.immediate_at m n4 (m * 16 + n4) op)))
forth (Skip op m n4) ok =
    rw (Words.skip op m n4) (read_as (with_address (skip_code op) m n4 (skip_below op) ok) (skip_at m n4 (m * 16 + n4) op))
forth (Rorc r) ok = with_address 7 7 r (lit< tt) ok
forth (Ld r m) ok = with_address 8 m r (lit< tt) ok
forth (St m r) ok = with_address 24 m r (lit< tt) ok
forth (MovToIndirect r m) ok = with_address 10 m r (lit< tt) ok
forth (MovFromIndirect m r) ok = with_address 26 m r (lit< tt) ok
forth (MovImmediate m n4) ok = with_address 29 m n4 (lit< tt) ok
forth (Peek rf) ok = read_as (around 3 rf (lit< tt) ok) (rw halves)
forth (Poke rf) ok = read_as (around 2 rf (lit< tt) ok) (rw halves)
forth (Get p) ok = read_as (around 11 p (lit< tt) ok) (rw halves)
forth (Put p) ok = read_as (around 10 p (lit< tt) ok) (rw halves)
forth (Br addr) ok = with_target 12 addr (lit< tt) ok
forth (Call addr) ok = with_target 28 addr (lit< tt) ok
forth (Stop s) ok = with_address 7 47 s (lit< tt) ok
forth (Halt h) ok = with_address 7 63 h (lit< tt) ok
forth (Fixed op) ok = plain op
