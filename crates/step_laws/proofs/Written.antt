-- The cells of writes_of are those of document 02, E7.
-- Assumes nothing.
use mathlib.Core.Path.{◌≡◌, ◌∙◌, ap, refl, sym}
use mathlib.Core.Bool.{Bool, true, false, not, ◌&&◌, ◌||◌, cond, or-false, or_self, beq, false≢true}
use mathlib.Core.List.{List, [], ◌∷◌}
use Prim.Native.Nat.{ℕ, ◌<◌}
use native.Mathlib.Omega.{arith}
use borrow.Author.Tests.{ne_eqb, eqb-true}
use lib.Dec.{T, eqb}
use Rattle.isa.specs.declared.AluOp.{AluOp}
use Rattle.isa.specs.declared.AluOp.TheVariants.{Add, AddC, Sub, SubC, Or, And, Xor}
use Rattle.isa.specs.declared.SkipOp.TheVariants.{Skt, Skf, Ske, Skne, Skge, Sklt}
use Rattle.isa.specs.declared.FixedOp.TheVariants.{IncAr, IncIx, Movt, PushAr, PopAr, BrAr, CallAr, Ret, Retsk, Reti, Ei, Di, Nop}
use Rattle.isa.specs.declared.Instruction.{Instruction}
use Rattle.isa.specs.declared.Instruction.TheVariants.{AluRegister, AluImmediate, Skip, Rorc, Ld, St, MovToIndirect, MovFromIndirect, MovImmediate, Peek, Poke, Get, Put, Br, Call, Stop, Halt, Fixed}
use Rattle.alu.specs.declared.Outcome.{Outcome}
use Rattle.laws.specs.Every.{every}
use Rattle.laws.proofs.Every.{every_at_lem}
use Rattle.memory.specs.Cells.{is_set}
use Rattle.memory.specs.Chip.{Chip}
use Rattle.memory.specs.Names.{AR3, AR0, WR, DBF3, DBF1, DBF0, IXH, IXL, PSW, CMP}
use Rattle.memory.specs.Registers.{ar_writes, low_byte_writes, buffer_writes, increment_ix}
use Rattle.memory.specs.Write.{◌↤◌, touches}
use Rattle.peripherals.specs.Registers.{is_data}
use Rattle.operations.specs.Data.{Data, Sources}
use Rattle.operations.specs.Operands.{address_in, addresses_of, no_cell}
use Rattle.operations.specs.Writes.{arithmetic_writes, result_writes, rotate_writes, skip_writes, poke_writes, alu_writes, transfer_writes, writes_at, writes_of}
use Rattle.step_laws.specs.WrittenCells.{is_arithmetic, from_to, is_result, is_flags, Named, alu_r, alu_m, rorc, skt, skf, inc_ar, pop_ar, inc_ix, movt, get, peek, WrittenCells}

-- two tests that agree on every cell
agree : (f g : ℕ → Bool) → T (every (λ (k : ℕ). beq (f k) (g k)) 128) → (k : ℕ) → k < 128 → f k ≡ g k
agree f g t k h = same (f k) (g k) (every_at_lem (λ (j : ℕ). beq (f j) (g j)) 128 t k h)
  where
    same : (a b : Bool) → T (beq a b) → a ≡ b
    same true true u = refl
    same true false u = absurd u
    same false true u = absurd u
    same false false u = refl

module _ (at k v w x : ℕ) where
  -- a result that goes to 7FH itself, and one that goes elsewhere
  with_flags : (b : Bool) → eqb at PSW ≡ b
      → touches (cond b ((PSW ↤ v) ∷ []) ((at ↤ w) ∷ (PSW ↤ x) ∷ [])) k ≡ (eqb k at || is_flags k)
  with_flags true e = or-false (is_flags k) ∙ (rw (eqb-true at PSW e) (sym (or_self (is_flags k))))
  with_flags false e = ap (λ (c : Bool). eqb k at || c) (or-false (is_flags k))

  unless_compared_lem : (b : Bool)
      → touches (cond b ((PSW ↤ x) ∷ []) (cond (eqb at PSW) ((PSW ↤ v) ∷ []) ((at ↤ w) ∷ (PSW ↤ x) ∷ []))) k ≡ ((not b && eqb k at) || is_flags k)
  unless_compared_lem true = or-false (is_flags k)
  unless_compared_lem false = with_flags (eqb at PSW) refl

module _ (cells : List ℕ) (at k : ℕ) (o : Outcome) where
  arithmetic : (op : AluOp) → is_arithmetic op ≡ true
      → touches (result_writes cells op at o) k ≡ ((not (is_set cells PSW CMP) && eqb k at) || is_flags k)
  unfolding result_writes arithmetic_writes
  arithmetic Add e = unless_compared_lem at k _ _ _ (is_set cells PSW CMP)
  arithmetic AddC e = unless_compared_lem at k _ _ _ (is_set cells PSW CMP)
  arithmetic Sub e = unless_compared_lem at k _ _ _ (is_set cells PSW CMP)
  arithmetic SubC e = unless_compared_lem at k _ _ _ (is_set cells PSW CMP)
  arithmetic Or e = absurd (false≢true e)
  arithmetic And e = absurd (false≢true e)
  arithmetic Xor e = absurd (false≢true e)

  logic : (op : AluOp) → (is_arithmetic op ≡ true → ⊥) → touches (result_writes cells op at o) k ≡ eqb k at
  unfolding result_writes
  logic Add n = absurd (n refl)
  logic AddC n = absurd (n refl)
  logic Sub n = absurd (n refl)
  logic SubC n = absurd (n refl)
  logic Or n = or-false (eqb k at)
  logic And n = or-false (eqb k at)
  logic Xor n = or-false (eqb k at)

module _ (chip : Chip) (d : Data) (src : Sources) (k : ℕ) (h : k < 128) where
  -- the instruction writes what it is to write
  abbrev Writes : Instruction → (ℕ → Bool) → Type 0
  Writes i cells = touches (writes_of chip d i src) k ≡ cells k

  get_named : (p : ℕ) (cells : ℕ → Bool) → Named chip d (Get p) cells → Writes (Get p) cells
  unfolding writes_of writes_at
  get_named p _ (get _) = agree (touches (low_byte_writes 0)) (from_to DBF1 DBF0) tt k h

  peek_named : (rf : ℕ) (cells : ℕ → Bool) → Named chip d (Peek rf) cells → Writes (Peek rf) cells
  unfolding writes_of writes_at
  peek_named rf _ (peek _) = or-false (eqb k WR)

  named : (i : Instruction) (cells : ℕ → Bool) → Named chip d i cells → Writes i cells
  unfolding writes_of writes_at addresses_of alu_writes skip_writes rotate_writes
  named _ _ (alu_r op r m e) = arithmetic d.cells _ k _ op e
  named _ _ (alu_m op m n4 e) = arithmetic d.cells _ k _ op e
  named _ _ (rorc r) = with_flags _ k _ _ _ _ refl
  named _ _ (skt m n) = or-false (is_flags k)
  named _ _ (skf m n) = or-false (is_flags k)
  named _ _ inc_ar = agree (touches (ar_writes 0)) (from_to AR3 AR0) tt k h
  named _ _ pop_ar = agree (touches (ar_writes 0)) (from_to AR3 AR0) tt k h
  named _ _ inc_ix = agree (touches (increment_ix [])) (from_to IXH IXL) tt k h
  named _ _ movt = agree (touches (buffer_writes 0)) (from_to DBF3 DBF0) tt k h
  named _ _ (get p) = get_named p _ (get p)
  named _ _ (peek rf) = peek_named rf _ (peek rf)

  nothing : false ≡ eqb k no_cell
  nothing = sym (ne_eqb k no_cell (λ e. omega arith))

  -- POKE of a data cell, and of a control register
  poked : (b : Bool) (rf v : ℕ) → touches (cond b ((rf ↤ v) ∷ []) []) k ≡ eqb k (cond b rf no_cell)
  poked true rf v = or-false (eqb k rf)
  poked false rf v = nothing

  others : (i : Instruction) → ((cells : ℕ → Bool) → Named chip d i cells → ⊥) → Writes i (is_result chip d i)
  unfolding writes_of writes_at addresses_of address_in alu_writes skip_writes poke_writes transfer_writes
  others (AluRegister op r m) n = logic d.cells _ k _ op (λ e. n _ (alu_r op r m e))
  others (AluImmediate op m n4) n = logic d.cells _ k _ op (λ e. n _ (alu_m op m n4 e))
  others (Skip Skt m n4) n = absurd (n _ (skt m n4))
  others (Skip Skf m n4) n = absurd (n _ (skf m n4))
  others (Skip Ske m n4) n = nothing
  others (Skip Skne m n4) n = nothing
  others (Skip Skge m n4) n = nothing
  others (Skip Sklt m n4) n = nothing
  others (Rorc r) n = absurd (n _ (rorc r))
  others (Ld r m) n = or-false _
  others (St m r) n = or-false _
  others (MovToIndirect r m) n = or-false _
  others (MovFromIndirect m r) n = or-false _
  others (MovImmediate m n4) n = or-false _
  others (Peek rf) n = absurd (n _ (peek rf))
  others (Poke rf) n = poked (is_data rf) rf _
  others (Get p) n = absurd (n _ (get p))
  others (Put p) n = nothing
  others (Br addr) n = nothing
  others (Call addr) n = nothing
  others (Stop s) n = nothing
  others (Halt s) n = nothing
  others (Fixed IncAr) n = absurd (n _ inc_ar)
  others (Fixed IncIx) n = absurd (n _ inc_ix)
  others (Fixed Movt) n = absurd (n _ movt)
  others (Fixed PushAr) n = nothing
  others (Fixed PopAr) n = absurd (n _ pop_ar)
  others (Fixed BrAr) n = nothing
  others (Fixed CallAr) n = nothing
  others (Fixed Ret) n = nothing
  others (Fixed Retsk) n = nothing
  others (Fixed Reti) n = nothing
  others (Fixed Ei) n = nothing
  others (Fixed Di) n = nothing
  others (Fixed Nop) n = nothing

pub written_cells : (chip : Chip) (d : Data) (src : Sources) → WrittenCells chip d src
written_cells chip d src = record {
  named = λ i cells w k h. named chip d src k h i cells w;
  others = λ i n k h. others chip d src k h i n;
}
