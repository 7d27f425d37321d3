-- The operands of an instruction, and where they stand: document 01, "Addresses". Their addresses are found before anything is
-- written.
-- Assumes nothing.
use Rattle.std.specs.Prelude.{Bool, ◌||◌, cond, List, [], ◌∷◌, ℕ}
use Rattle.isa.specs.declared.AluOp.{AluOp}
use Rattle.isa.specs.declared.AluOp.TheVariants.{Add, AddC, Sub, SubC, Or, And, Xor}
use Rattle.isa.specs.declared.SkipOp.{SkipOp}
use Rattle.isa.specs.declared.SkipOp.TheVariants.{Skt, Skf, Ske, Skne, Skge, Sklt}
use Rattle.isa.specs.declared.FixedOp.{FixedOp}
use Rattle.isa.specs.declared.FixedOp.TheVariants.{IncAr, IncIx, Movt, PushAr, PopAr, BrAr, CallAr, Ret, Retsk, Reti, Ei, Di, Nop}
use Rattle.isa.specs.declared.Instruction.{Instruction}
use Rattle.isa.specs.declared.Instruction.TheVariants.{AluRegister, AluImmediate, Skip, Rorc, Ld, St, MovToIndirect, MovFromIndirect, MovImmediate, Peek, Poke, Get, Put, Br, Call, Stop, Halt, Fixed}
use Rattle.memory.specs.Address.{address_of, register_of, indirect_of}
use Rattle.memory.specs.Chip.{Chip, is_missing}
use Rattle.memory.specs.Names.{AR3, AR2, AR1, AR0, WR, DBF1, DBF0, IXH, IXM, IXL, RPL, PSW}
use Rattle.peripherals.specs.Registers.{is_data}
use Rattle.operations.specs.Data.{Data, read_at}
use Rattle.operations.specs.declared.Addresses.{Addresses}

-- m, r, @r with the row that m gives, and the register file's rf where that is a cell
pub data Operand : Type 0 where
  none : Operand
  direct : ℕ → Operand
  register : ℕ → Operand
  indirect : ℕ → ℕ → Operand
  file : ℕ → Operand

pub record Operands : Type 0 where
  -- the cell that the result goes to
  pub to : Operand
  -- the cell that it is taken from
  pub from : Operand
  -- the register that gives @r its column
  pub pointer : Operand
  -- the cells that the instruction goes by without naming them, besides those that its addresses go by
  pub implied : List ℕ

abbrev pub ar : List ℕ
ar = AR3 ∷ AR2 ∷ AR1 ∷ AR0 ∷ []

-- arithmetic goes by CMP, CY, Z and BCD, logic by nothing
abbrev pub implied_by_alu : AluOp → List ℕ
implied_by_alu Add = PSW ∷ RPL ∷ []
implied_by_alu AddC = PSW ∷ RPL ∷ []
implied_by_alu Sub = PSW ∷ RPL ∷ []
implied_by_alu SubC = PSW ∷ RPL ∷ []
implied_by_alu Or = []
implied_by_alu And = []
implied_by_alu Xor = []

-- SKT and SKF clear CMP in what 7FH holds
abbrev pub implied_by_skip : SkipOp → List ℕ
implied_by_skip Skt = PSW ∷ []
implied_by_skip Skf = PSW ∷ []
implied_by_skip Ske = []
implied_by_skip Skne = []
implied_by_skip Skge = []
implied_by_skip Sklt = []

abbrev pub implied_by_fixed : FixedOp → List ℕ
implied_by_fixed IncAr = ar
implied_by_fixed IncIx = IXH ∷ IXM ∷ IXL ∷ []
implied_by_fixed Movt = ar
implied_by_fixed PushAr = ar
implied_by_fixed PopAr = []
implied_by_fixed BrAr = ar
implied_by_fixed CallAr = ar
implied_by_fixed Ret = []
implied_by_fixed Retsk = []
implied_by_fixed Reti = []
implied_by_fixed Ei = []
implied_by_fixed Di = []
implied_by_fixed Nop = []

abbrev pub operands : Operand → Operand → List ℕ → Operands
operands to from implied = record { to = to; from = from; pointer = none; implied = implied }

-- MOV through the register r
abbrev pub pointed : Operand → Operand → ℕ → Operands
pointed to from r = record { to = to; from = from; pointer = register r; implied = [] }

abbrev pub operands_of : Instruction → Operands
operands_of (AluRegister op r m) = operands (register r) (direct m) (implied_by_alu op)
operands_of (AluImmediate op m n4) = operands (direct m) none (implied_by_alu op)
operands_of (Skip op m n4) = operands none (direct m) (implied_by_skip op)
operands_of (Rorc r) = operands (register r) none (PSW ∷ [])
operands_of (Ld r m) = operands (register r) (direct m) []
operands_of (St m r) = operands (direct m) (register r) []
operands_of (MovToIndirect r m) = pointed (indirect m r) (direct m) r
operands_of (MovFromIndirect m r) = pointed (direct m) (indirect m r) r
operands_of (MovImmediate m n4) = operands (direct m) none []
operands_of (Peek rf) = operands none (file rf) []
operands_of (Poke rf) = operands (file rf) none (WR ∷ [])
operands_of (Get p) = operands none none []
operands_of (Put p) = operands none none (DBF1 ∷ DBF0 ∷ [])
operands_of (Br addr) = operands none none []
operands_of (Call addr) = operands none none []
operands_of (Stop s) = operands none none []
operands_of (Halt h) = operands none none []
operands_of (Fixed op) = operands none none (implied_by_fixed op)

-- an address that no cell has
abbrev pub no_cell : ℕ
no_cell = 128

module _ (chip : Chip) (d : Data) where
  -- the effective address of an operand; IX changes m, and never rf (source document 000, table 7-1)
  unfoldable pub address_in : Operand → ℕ
  address_in none = no_cell
  address_in (direct m) = address_of d.cells m
  address_in (register r) = register_of d.cells r
  address_in (indirect m r) = indirect_of d.cells m (read_at chip d (register_of d.cells r))
  address_in (file rf) = cond (is_data rf) rf no_cell

  unfoldable pub addresses_of : Instruction → Addresses
  addresses_of i =
      record { to = address_in (operands_of i).to; from = address_in (operands_of i).from; pointer = address_in (operands_of i).pointer }

-- document 02, E1: "a missing cell read or written", by the addresses that were found
unfoldable pub lacks_at : Chip → Addresses → Bool
lacks_at chip a = is_missing chip a.to || (is_missing chip a.from || is_missing chip a.pointer)
