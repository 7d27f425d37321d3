-- What an instruction writes, and whether it skips: document 01, "Results". The writes are a list, in order; which cells are in
-- it, even where a value stays, is document 02's E7.
-- Assumes nothing.
use Rattle.std.specs.Prelude.{Bool, false, ◌&&◌, cond, List, [], ◌∷◌, ℕ, eqb, leb}
use Rattle.isa.specs.declared.AluOp.{AluOp}
use Rattle.isa.specs.declared.AluOp.TheVariants.{Add, AddC, Sub, SubC, Or, And, Xor}
use Rattle.isa.specs.declared.SkipOp.{SkipOp}
use Rattle.isa.specs.declared.SkipOp.TheVariants.{Skt, Skf, Ske, Skne, Skge, Sklt}
use Rattle.isa.specs.declared.FixedOp.TheVariants.{IncAr, IncIx, Movt, PushAr, PopAr, BrAr, CallAr, Ret, Retsk, Reti, Ei, Di, Nop}
use Rattle.isa.specs.declared.Instruction.{Instruction}
use Rattle.isa.specs.declared.Instruction.TheVariants.{AluRegister, AluImmediate, Skip, Rorc, Ld, St, MovToIndirect, MovFromIndirect, MovImmediate, Peek, Poke, Get, Put, Br, Call, Stop, Halt, Fixed}
use Rattle.alu.specs.declared.Outcome.{Outcome}
use Rattle.alu.specs.Results.{operate_of, rotate_of, zero_of, condition_of}
use Rattle.memory.specs.Cells.{cell_at, is_set, with_flag}
use Rattle.memory.specs.Chip.{Chip}
use Rattle.memory.specs.Names.{WR, PSW, RPL, CMP, CY, Z, BCD}
use Rattle.memory.specs.Registers.{window_of, low_byte_writes, buffer_writes, ar_writes, increment_ar, increment_ix}
use Rattle.memory.specs.Write.{Write, ◌↤◌}
use Rattle.peripherals.specs.Registers.{is_data, peek_of}
use Rattle.operations.specs.Data.{Data, Sources, read_at}
use Rattle.operations.specs.Operands.{addresses_of}
use Rattle.operations.specs.declared.Addresses.{Addresses}

-- Flags and results, which depend on the cells alone.
module _ (cells : List ℕ) where
  abbrev pub psw : ℕ
  psw = cell_at cells PSW

  abbrev pub flag : ℕ → Bool
  flag f = is_set cells PSW f

  -- PSW after an arithmetic result: CY, and Z by its rule
  unfoldable pub flags_after : Outcome → ℕ
  flags_after o = with_flag (with_flag psw CY o.carry) Z (zero_of (flag CMP) (flag Z) o.result)

  -- with CMP set the result goes nowhere; with CMP clear and 7FH for its place it is stored, and CY and Z are left at that
  unfoldable pub arithmetic_writes : ℕ → Outcome → List Write
  arithmetic_writes at o =
      cond (flag CMP)
      ((PSW ↤ flags_after o) ∷ [])
      (cond (eqb at PSW)
      ((PSW ↤ o.result) ∷ [])
      ((at ↤ o.result) ∷ (PSW ↤ flags_after o) ∷ []))

  -- AND, OR and XOR change a flag only where they write its cell
  unfoldable pub result_writes : AluOp → ℕ → Outcome → List Write
  result_writes Add at o = arithmetic_writes at o
  result_writes AddC at o = arithmetic_writes at o
  result_writes Sub at o = arithmetic_writes at o
  result_writes SubC at o = arithmetic_writes at o
  result_writes Or at o = (at ↤ o.result) ∷ []
  result_writes And at o = (at ↤ o.result) ∷ []
  result_writes Xor at o = (at ↤ o.result) ∷ []

  -- RORC: the bit that falls out goes to CY, Z stays; on 7FH CY gets nothing more, at CMP 1 too
  unfoldable pub rotate_writes : ℕ → Outcome → List Write
  rotate_writes at o =
      cond (eqb at PSW) ((PSW ↤ o.result) ∷ []) ((at ↤ o.result) ∷ (PSW ↤ with_flag psw CY o.carry) ∷ [])

  -- SKT and SKF clear CMP; the compares write nothing
  unfoldable pub skip_writes : SkipOp → List Write
  skip_writes Skt = (PSW ↤ with_flag psw CMP false) ∷ []
  skip_writes Skf = (PSW ↤ with_flag psw CMP false) ∷ []
  skip_writes Ske = []
  skip_writes Skne = []
  skip_writes Skge = []
  skip_writes Sklt = []

  -- POKE of a data cell; of a control register it writes no cell
  unfoldable pub poke_writes : ℕ → List Write
  poke_writes rf = cond (is_data rf) ((rf ↤ window_of cells) ∷ []) []

module _ (chip : Chip) (d : Data) where
  -- an operation on what stands at an address and a second operand
  unfoldable pub alu_writes : AluOp → ℕ → ℕ → List Write
  alu_writes op at b =
      result_writes d.cells op at (operate_of op (is_set d.cells RPL BCD) (read_at chip d at) b (flag d.cells CY))

  -- LD, ST and MOV
  unfoldable pub transfer_writes : Addresses → List Write
  transfer_writes a = (a.to ↤ read_at chip d a.from) ∷ []

  -- what stands in the register file: data memory by the very rule of cells, below it the control registers
  unfoldable pub file_at : ℕ → ℕ
  file_at rf = cond (is_data rf) (read_at chip d rf) (peek_of d.registers rf)

  -- by the addresses that were found
  unfoldable pub writes_at : Addresses → Instruction → Sources → List Write
  writes_at a (AluRegister op r m) src = alu_writes op a.to (read_at chip d a.from)
  writes_at a (AluImmediate op m n4) src = alu_writes op a.to n4
  writes_at a (Skip op m n4) src = skip_writes d.cells op
  writes_at a (Rorc r) src = rotate_writes d.cells a.to (rotate_of (read_at chip d a.to) (flag d.cells CY))
  writes_at a (Ld r m) src = transfer_writes a
  writes_at a (St m r) src = transfer_writes a
  writes_at a (MovToIndirect r m) src = transfer_writes a
  writes_at a (MovFromIndirect m r) src = transfer_writes a
  writes_at a (MovImmediate m n4) src = (a.to ↤ n4) ∷ []
  writes_at a (Peek rf) src = (WR ↤ file_at rf) ∷ []
  writes_at a (Poke rf) src = poke_writes d.cells rf
  writes_at a (Get p) src = low_byte_writes src.counter
  writes_at a (Put p) src = []
  writes_at a (Br addr) src = []
  writes_at a (Call addr) src = []
  writes_at a (Stop s) src = []
  writes_at a (Halt h) src = []
  writes_at a (Fixed IncAr) src = increment_ar d.cells
  writes_at a (Fixed IncIx) src = increment_ix d.cells
  writes_at a (Fixed Movt) src = buffer_writes src.word
  writes_at a (Fixed PushAr) src = []
  writes_at a (Fixed PopAr) src = ar_writes src.top
  writes_at a (Fixed BrAr) src = []
  writes_at a (Fixed CallAr) src = []
  writes_at a (Fixed Ret) src = []
  writes_at a (Fixed Retsk) src = []
  writes_at a (Fixed Reti) src = []
  writes_at a (Fixed Ei) src = []
  writes_at a (Fixed Di) src = []
  writes_at a (Fixed Nop) src = []

  unfoldable pub writes_of : Instruction → Sources → List Write
  writes_of i src = writes_at (addresses_of chip d i) i src

  -- whether a skip's condition holds
  unfoldable pub holds_at : Addresses → Instruction → Bool
  holds_at a (AluRegister op r m) = false
  holds_at a (AluImmediate op m n4) = false
  holds_at a (Skip op m n4) = condition_of op (read_at chip d a.from) n4
  holds_at a (Rorc r) = false
  holds_at a (Ld r m) = false
  holds_at a (St m r) = false
  holds_at a (MovToIndirect r m) = false
  holds_at a (MovFromIndirect m r) = false
  holds_at a (MovImmediate m n4) = false
  holds_at a (Peek rf) = false
  holds_at a (Poke rf) = false
  holds_at a (Get p) = false
  holds_at a (Put p) = false
  holds_at a (Br addr) = false
  holds_at a (Call addr) = false
  holds_at a (Stop s) = false
  holds_at a (Halt h) = false
  holds_at a (Fixed op) = false

  unfoldable pub holds_of : Instruction → Bool
  holds_of i = holds_at (addresses_of chip d i) i

-- the cells from one to another
abbrev pub from_to : ℕ → ℕ → ℕ → Bool
from_to first last k = leb first k && leb k last
