-- An instruction depends on nothing but what its operands hold as it reads them, the cells that their addresses go by and those
-- that it implies, and, for PEEK and GET, what they read of the peripherals: document 01, "Addresses" and "Results", document 02,
-- E4. Proved in proofs/Depends.antt.
-- Assumes nothing.
use Rattle.std.specs.Prelude.{◌≡◌, List, [], ◌∷◌, ℕ}
use Rattle.isa.specs.declared.AluOp.{AluOp}
use Rattle.isa.specs.declared.Instruction.{Instruction}
use Rattle.isa.specs.declared.Instruction.TheVariants.{AluRegister, AluImmediate, Rorc, Peek, Get}
use Rattle.memory.specs.Cells.{cell_at}
use Rattle.memory.specs.Chip.{Chip}
use Rattle.memory.specs.Names.{IXH, IXM, IXL, RPL, PSW}
use Rattle.machine.specs.Parts.{cells_of, machine_of}
use Rattle.machine.specs.Signals.{Signals}
use Rattle.machine.specs.declared.Machine.{Machine}
use Rattle.peripherals.specs.declared.Peripherals.{Peripherals}
use Rattle.operations.specs.Data.{Data, read_at}
use Rattle.operations.specs.Operands.{Operand, none, direct, register, indirect, file, operands_of, address_in}
use Rattle.operations.specs.Settings.{settings_of}
use Rattle.operations.specs.Writes.{file_at, holds_of}
use Rattle.cpu.specs.Execute.{data_of, transfer_by, execute_of}
use Rattle.step_laws.specs.StepLaws.{writes_by}

-- the cells that an operand's address goes by: m's by IXE and IX, r's by the register pointer, and @r's by these and by MPE; rf's by
-- none
abbrev pub addressed_by : Operand → List ℕ
addressed_by none = []
addressed_by (direct m) = PSW ∷ IXM ∷ IXL ∷ []
addressed_by (register r) = RPL ∷ []
addressed_by (indirect m r) = PSW ∷ IXH ∷ IXM ∷ IXL ∷ RPL ∷ []
addressed_by (file rf) = []

-- the instructions that read the cell of their result; LD, ST and MOV only write it
pub data ReadsResult : Instruction → Type 0 where
  alu_r : (op : AluOp) (r m : ℕ) → ReadsResult (AluRegister op r m)
  alu_m : (op : AluOp) (m n4 : ℕ) → ReadsResult (AluImmediate op m n4)
  rorc : (r : ℕ) → ReadsResult (Rorc r)

-- two memories agree at each of some addresses
abbrev pub AgreeAt : List ℕ → List ℕ → List ℕ → Type 0
AgreeAt [] cells others = Unit
AgreeAt (at ∷ ats) cells others = (cell_at cells at ≡ cell_at others at) × AgreeAt ats cells others

module _ (chip : Chip) (d e : Data) where
  -- a cell is read alike: of a port the pin or the stored bit, by the directions
  abbrev pub ReadAlike : ℕ → Type 0
  ReadAlike at = read_at chip d at ≡ read_at chip e at

  -- and so is the register that gives @r its column
  abbrev pub Pointed : Operand → Type 0
  Pointed none = Unit
  Pointed (direct m) = Unit
  Pointed (register r) = Unit
  Pointed (indirect m r) = ReadAlike (address_in chip d (register r))
  Pointed (file rf) = Unit

-- two machines agree at what an instruction goes by: what the addresses of its operands go by, what it reads there, each with its own
-- signals, and what it implies
pub record Agree (chip : Chip) (s t : Signals) (i : Instruction) (m n : Machine) : Type 0 where
  pub to : AgreeAt (addressed_by (operands_of i).to) (cells_of m) (cells_of n)
  pub from : AgreeAt (addressed_by (operands_of i).from) (cells_of m) (cells_of n)
  pub to_pointer : Pointed chip (data_of m s) (data_of n t) (operands_of i).to
  pub from_pointer : Pointed chip (data_of m s) (data_of n t) (operands_of i).from
  pub source : ReadAlike chip (data_of m s) (data_of n t) (address_in chip (data_of m s) (operands_of i).from)
  pub result : ReadsResult i → ReadAlike chip (data_of m s) (data_of n t) (address_in chip (data_of m s) (operands_of i).to)
  pub implied : AgreeAt (operands_of i).implied (cells_of m) (cells_of n)
  pub peeked : (rf : ℕ) → i ≡ Peek rf → file_at chip (data_of m s) rf ≡ file_at chip (data_of n t) rf
  pub got : (p : ℕ) → i ≡ Get p → m.peripherals.counter ≡ n.peripherals.counter

module _ (chip : Chip) (rom : List ℕ) (s t : Signals) where
  -- the same writes and settings, the same condition, the same transfer of control and the same answer
  pub record Same (i : Instruction) (m n : Machine) : Type 0 where
    pub writes : writes_by chip rom s i m ≡ writes_by chip rom t i n
    pub settings : (p : Peripherals) → settings_of (cells_of m) p i ≡ settings_of (cells_of n) p i
    pub holds : holds_of chip (data_of m s) i ≡ holds_of chip (data_of n t) i
    pub transfer : transfer_by chip rom s i m ≡ transfer_by chip rom t i n
    pub reply : (execute_of chip rom s i m).reply ≡ (execute_of chip rom t i n).reply

  -- whatever else the two differ in: other cells, other peripherals, and of the signals the directions, the release, the pulse, and the
  -- pins that are not read
  abbrev pub ReadLaw : Type 0
  ReadLaw =
      (i : Instruction) (m : Machine) (others : List ℕ) (p : Peripherals)
      → Agree chip s t i m (machine_of others p m.control) → Same i m (machine_of others p m.control)
