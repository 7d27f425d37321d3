-- Which cells an instruction writes, in the words of document 02, E7; "a write of an equal value counts". Proved of writes_of in
-- proofs/Written.antt.
-- Assumes nothing.
use Rattle.std.specs.Prelude.{◌≡◌, Bool, true, false, not, ◌&&◌, ◌||◌, ℕ, ◌<◌, eqb, leb}
use Rattle.isa.specs.declared.AluOp.{AluOp}
use Rattle.isa.specs.declared.AluOp.TheVariants.{Add, AddC, Sub, SubC, Or, And, Xor}
use Rattle.isa.specs.declared.SkipOp.TheVariants.{Skt, Skf}
use Rattle.isa.specs.declared.FixedOp.TheVariants.{IncAr, IncIx, Movt, PopAr}
use Rattle.isa.specs.declared.Instruction.{Instruction}
use Rattle.isa.specs.declared.Instruction.TheVariants.{AluRegister, AluImmediate, Skip, Rorc, Peek, Get, Fixed}
use Rattle.memory.specs.Cells.{is_set}
use Rattle.memory.specs.Chip.{Chip}
use Rattle.memory.specs.Names.{AR3, AR0, WR, DBF3, DBF1, DBF0, IXH, IXL, PSW, CMP}
use Rattle.memory.specs.Write.{touches}
use Rattle.operations.specs.Data.{Data, Sources}
use Rattle.operations.specs.Operands.{operands_of, address_in}
use Rattle.operations.specs.Writes.{writes_of}

abbrev pub is_arithmetic : AluOp → Bool
is_arithmetic Add = true
is_arithmetic AddC = true
is_arithmetic Sub = true
is_arithmetic SubC = true
is_arithmetic Or = false
is_arithmetic And = false
is_arithmetic Xor = false

-- the cells from one to another
abbrev pub from_to : ℕ → ℕ → ℕ → Bool
from_to first last k = leb first k && leb k last

abbrev pub is_flags : ℕ → Bool
is_flags k = eqb k PSW

module _ (chip : Chip) (d : Data) where
  -- where the result goes
  abbrev pub is_result : Instruction → ℕ → Bool
  is_result i k = eqb k (address_in chip d (operands_of i).to)

  -- "an arithmetic result under CMP is no write"
  abbrev pub unless_compared : Instruction → ℕ → Bool
  unless_compared i k = (not (is_set d.cells PSW CMP) && is_result i k) || is_flags k

  -- the instructions that E7 names, each with the cells that it writes
  pub data Named : Instruction → (ℕ → Bool) → Type 0 where
    -- "arithmetic (under CMP too), RORC, SKT and SKF write 7FH even if no flag changes"
    alu_r : (op : AluOp) (r m : ℕ) → is_arithmetic op ≡ true → Named (AluRegister op r m) (unless_compared (AluRegister op r m))
    alu_m : (op : AluOp) (m n4 : ℕ) → is_arithmetic op ≡ true → Named (AluImmediate op m n4) (unless_compared (AluImmediate op m n4))
    rorc : (r : ℕ) → Named (Rorc r) (λ k. is_result (Rorc r) k || is_flags k)
    skt : (m n : ℕ) → Named (Skip Skt m n) is_flags
    skf : (m n : ℕ) → Named (Skip Skf m n) is_flags
    -- "INC AR and POP AR write 74H to 77H, INC IX 7AH to 7CH, MOVT 0CH to 0FH, GET 0EH and 0FH, PEEK 78H"
    inc_ar : Named (Fixed IncAr) (from_to AR3 AR0)
    pop_ar : Named (Fixed PopAr) (from_to AR3 AR0)
    inc_ix : Named (Fixed IncIx) (from_to IXH IXL)
    movt : Named (Fixed Movt) (from_to DBF3 DBF0)
    get : (p : ℕ) → Named (Get p) (from_to DBF1 DBF0)
    peek : (rf : ℕ) → Named (Peek rf) (λ k. eqb k WR)

  pub record WrittenCells (src : Sources) : Type 0 where
    pub named : (i : Instruction) (cells : ℕ → Bool) → Named i cells → (k : ℕ) → k < 128
        → touches (writes_of chip d i src) k ≡ cells k
    -- every other instruction writes the cell of its result and no other, POKE "its data cell if any"
    pub others : (i : Instruction) → ((cells : ℕ → Bool) → Named i cells → ⊥) → (k : ℕ) → k < 128
        → touches (writes_of chip d i src) k ≡ is_result i k
