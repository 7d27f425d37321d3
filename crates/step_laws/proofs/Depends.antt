-- An instruction depends on nothing but what it goes by and what it reads.
-- Assumes nothing.
use mathlib.Core.Path.{◌≡◌, ◌∙◌, ap, ap₂, refl, sym}
use mathlib.Core.Bool.{Bool, true, false, not, cond}
use mathlib.Core.List.{List}
use Prim.Native.Nat.{ℕ, ◌+◌, ◌*◌, ◌/◌, ◌%◌}
use lib.Bits.{bit_and}
use lib.Dec.{eqb}
use lib.ListN.{get_or}
use Rattle.alu.specs.Results.{operate_of, condition_of}
use Rattle.alu.specs.declared.Outcome.{Outcome}
use Rattle.isa.specs.declared.AluOp.{AluOp}
use Rattle.isa.specs.declared.AluOp.TheVariants.{Add, AddC, Sub, SubC, Or, And, Xor}
use Rattle.isa.specs.declared.SkipOp.{SkipOp}
use Rattle.isa.specs.declared.SkipOp.TheVariants.{Skt, Skf, Ske, Skne, Skge, Sklt}
use Rattle.isa.specs.declared.FixedOp.TheVariants.{IncAr, IncIx, Movt, PushAr, PopAr, BrAr, CallAr, Ret, Retsk, Reti, Ei, Di, Nop}
use Rattle.isa.specs.declared.Instruction.{Instruction}
use Rattle.isa.specs.declared.Instruction.TheVariants.{AluRegister, AluImmediate, Skip, Rorc, Ld, St, MovToIndirect, MovFromIndirect, MovImmediate, Peek, Poke, Get, Put, Br, Call, Stop, Halt, Fixed}
use Rattle.memory.specs.Address.{row_of, ix_of, address_of, register_of, indirect_of}
use Rattle.memory.specs.Cells.{cell_at, is_set}
use Rattle.memory.specs.Chip.{Chip}
use Rattle.memory.specs.Names.{IXH, IXM, IXL, RPL, PSW, CMP, CY, Z, BCD}
use Rattle.memory.specs.Registers.{ar_of}
use Rattle.machine.specs.Parts.{cells_of, machine_of}
use Rattle.machine.specs.declared.Control.{Control}
use Rattle.machine.specs.Signals.{Signals}
use Rattle.machine.specs.declared.Machine.{Machine}
use Rattle.control.specs.Control.{control_of, top_of}
use Rattle.control.specs.Flow.{onward_if, flow_of}
use Rattle.peripherals.specs.Registers.{in_file}
use Rattle.peripherals.specs.Table.{TMC, TMM}
use Rattle.peripherals.specs.declared.Peripherals.{Peripherals}
use Rattle.operations.specs.Data.{Data, Sources, read_at}
use Rattle.operations.specs.Operands.{Operand, none, direct, register, indirect, file, ar, implied_by_alu, implied_by_skip, operands_of, address_in, addresses_of, lacks_at}
use Rattle.operations.specs.Settings.{settings_of}
use Rattle.operations.specs.Writes.{flags_after, arithmetic_writes, result_writes, rotate_writes, skip_writes, poke_writes, alu_writes, transfer_writes, file_at, writes_at, writes_of, holds_at, holds_of}
use Rattle.operations.specs.declared.Addresses.{Addresses}
use Rattle.cpu.specs.Execute.{data_of, sources_of, lacks_of, past_table, transfer_by, execute_of}
use Rattle.cpu.specs.Reply.{Reply, done, refused, completed_step, refused_step}
use Rattle.step_laws.specs.ReadLaw.{addressed_by, ReadsResult, alu_r, alu_m, rorc, AgreeAt, ReadAlike, Pointed, Agree, ReadLaw}
use Rattle.step_laws.specs.StepLaws.{writes_by}

module _ (c o : List ℕ) where
  abbrev Agrees : ℕ → Type 0
  Agrees at = cell_at c at ≡ cell_at o at

  set_same : (at f : ℕ) → Agrees at → is_set c at f ≡ is_set o at f
  unfolding is_set
  set_same at f e = ap (λ (x : ℕ). not (eqb (bit_and x f) 0)) e

  ar_same : AgreeAt ar c o → ar_of c ≡ ar_of o
  unfolding ar_of
  ar_same h = rw (h.0, h.1.0, h.1.1.0, h.1.1.1.0)

  row_same : Agrees IXM → row_of c ≡ row_of o
  row_same e = ap (λ (x : ℕ). x % 8) e

  ix_same : Agrees IXM → Agrees IXL → ix_of c ≡ ix_of o
  unfolding ix_of
  ix_same e f = ap₂ (λ (r x : ℕ). r * 16 + x % 16) (row_same e) f

  address_same : (m : ℕ) → Agrees PSW → Agrees IXM → Agrees IXL → address_of c m ≡ address_of o m
  unfolding address_of
  address_same m p e f = rw (set_same PSW _ p, ix_same e f)

  register_same : (r : ℕ) → Agrees RPL → register_of c r ≡ register_of o r
  unfolding register_of
  register_same r e = ap (λ (x : ℕ). x % 16 / 2 * 16 + r % 16) e

  indirect_same : (m x y : ℕ) → Agrees IXH → Agrees IXM → address_of c m ≡ address_of o m → x ≡ y → indirect_of c m x ≡ indirect_of o m y
  unfolding indirect_of
  indirect_same m x y h e a f = rw (set_same IXH _ h, row_same e, a, f)

  flags_same : (r : Outcome) → Agrees PSW → flags_after c r ≡ flags_after o r
  unfolding flags_after
  flags_same r p = rw (set_same PSW CMP p, set_same PSW Z p, p)

  arithmetic_same : (at : ℕ) (r : Outcome) → Agrees PSW → arithmetic_writes c at r ≡ arithmetic_writes o at r
  unfolding arithmetic_writes
  arithmetic_same at r p = rw (set_same PSW _ p, flags_same r p)

  rotate_same : (at : ℕ) (r : Outcome) → Agrees PSW → rotate_writes c at r ≡ rotate_writes o at r
  unfolding rotate_writes
  rotate_same at r p = rw p

  skip_same : (op : SkipOp) → AgreeAt (implied_by_skip op) c o → skip_writes c op ≡ skip_writes o op
  unfolding skip_writes
  skip_same Skt h = rw h.0
  skip_same Skf h = rw h.0
  skip_same Ske h = refl
  skip_same Skne h = refl
  skip_same Skge h = refl
  skip_same Sklt h = refl

  -- what an instruction sets it takes from cells that it implies
  settings_same : (i : Instruction) → AgreeAt (operands_of i).implied c o → (p : Peripherals) → settings_of c p i ≡ settings_of o p i
  unfolding settings_of
  settings_same (AluRegister op r m) h p = refl
  settings_same (AluImmediate op m n4) h p = refl
  settings_same (Skip op m n4) h p = refl
  settings_same (Rorc r) h p = refl
  settings_same (Ld r m) h p = refl
  settings_same (St m r) h p = refl
  settings_same (MovToIndirect r m) h p = refl
  settings_same (MovFromIndirect m r) h p = refl
  settings_same (MovImmediate m n4) h p = refl
  settings_same (Peek rf) h p = refl
  settings_same (Poke rf) h p = rw h.0
  settings_same (Get at) h p = refl
  settings_same (Put at) h p = rw (h.0, h.1.0)
  settings_same (Br addr) h p = refl
  settings_same (Call addr) h p = refl
  settings_same (Stop s) h p = refl
  settings_same (Halt s) h p = refl
  settings_same (Fixed op) h p = refl

module _ (chip : Chip) (d e : Data) where
  abbrev c : List ℕ
  c = d.cells

  abbrev o : List ℕ
  o = e.cells

  -- an operand stands at the same address
  operand_same : (w : Operand) → AgreeAt (addressed_by w) c o → Pointed chip d e w → address_in chip d w ≡ address_in chip e w
  unfolding address_in
  operand_same none h x = refl
  operand_same (direct m) h x = address_same c o m h.0 h.1.0 h.1.1.0
  operand_same (register r) h x = register_same c o r h.0
  operand_same (indirect m r) h x =
      let column = x ∙ ap (read_at chip e) (register_same c o r h.1.1.1.1.0) in
      indirect_same c o m _ _ h.1.0 h.1.1.0 (address_same c o m h.0 h.1.1.0 h.1.1.1.0) column
  operand_same (file rf) h x = refl

  -- the register that gives @r its column, where there is one
  pointer_same : (i : Instruction) → AgreeAt (addressed_by (operands_of i).to) c o → AgreeAt (addressed_by (operands_of i).from) c o
      → address_in chip d (operands_of i).pointer ≡ address_in chip e (operands_of i).pointer
  unfolding address_in
  pointer_same (AluRegister op r m) h k = refl
  pointer_same (AluImmediate op m n4) h k = refl
  pointer_same (Skip op m n4) h k = refl
  pointer_same (Rorc r) h k = refl
  pointer_same (Ld r m) h k = refl
  pointer_same (St m r) h k = refl
  pointer_same (MovToIndirect r m) h k = register_same c o r h.1.1.1.1.0
  pointer_same (MovFromIndirect m r) h k = register_same c o r k.1.1.1.1.0
  pointer_same (MovImmediate m n4) h k = refl
  pointer_same (Peek rf) h k = refl
  pointer_same (Poke rf) h k = refl
  pointer_same (Get p) h k = refl
  pointer_same (Put p) h k = refl
  pointer_same (Br addr) h k = refl
  pointer_same (Call addr) h k = refl
  pointer_same (Stop s) h k = refl
  pointer_same (Halt s) h k = refl
  pointer_same (Fixed op) h k = refl

  -- an operation on what stands at an address
  operated : (op : AluOp) (at b b' : ℕ) → read_at chip d at ≡ read_at chip e at → b ≡ b' → Agrees c o PSW → Agrees c o RPL
      → arithmetic_writes c at (operate_of op (is_set c RPL BCD) (read_at chip d at) b (is_set c PSW CY))
      ≡ arithmetic_writes o at (operate_of op (is_set o RPL BCD) (read_at chip e at) b' (is_set o PSW CY))
  operated op at b b' x y p r = rw (set_same c o RPL BCD r, set_same c o PSW CY p, x, y) (arithmetic_same c o at _ p)

  alu_same : (op : AluOp) (at b b' : ℕ) → read_at chip d at ≡ read_at chip e at → b ≡ b' → AgreeAt (implied_by_alu op) c o
      → alu_writes chip d op at b ≡ alu_writes chip e op at b'
  unfolding alu_writes result_writes operate_of
  alu_same Add at b b' x y h = operated Add at b b' x y h.0 h.1.0
  alu_same AddC at b b' x y h = operated AddC at b b' x y h.0 h.1.0
  alu_same Sub at b b' x y h = operated Sub at b b' x y h.0 h.1.0
  alu_same SubC at b b' x y h = operated SubC at b b' x y h.0 h.1.0
  alu_same Or at b b' x y h = rw (x, y)
  alu_same And at b b' x y h = rw (x, y)
  alu_same Xor at b b' x y h = rw (x, y)

  -- by addresses at which both read the same
  module _ (rom : List ℕ) (control : Control) (a : Addresses) (top counter other : ℕ) where
    abbrev src : Sources
    src = record { top = top; word = get_or rom (ar_of c) 0; counter = counter }

    abbrev src' : Sources
    src' = record { top = top; word = get_or rom (ar_of o) 0; counter = other }

    -- the writes, the condition, where control goes, and refusal 8
    abbrev Alike : Instruction → Type 0
    Alike i =
        (writes_at chip d a i src ≡ writes_at chip e a i src')
        × ((holds_at chip d a i ≡ holds_at chip e a i)
        × (((holds : Bool) → control_of chip (flow_of i) holds (ar_of c) control ≡ control_of chip (flow_of i) holds (ar_of o) control)
        × (past_table rom (ar_of c) (flow_of i) ≡ past_table rom (ar_of o) (flow_of i))))

    -- an instruction that has no skip and does not go by AR
    plain : {A B C : Type 0} {w x : A} {p : B} {q : Bool → C} {r : Bool} → w ≡ x → (w ≡ x) × ((p ≡ p) × (((b : Bool) → q b ≡ q b) × (r ≡ r)))
    plain w = (w, (refl, (λ b. refl, refl)))

    -- one that goes on or is refused by its word alone
    by_word : {A B : Type 0} {w x : A} {p : B} (b : Bool) → w ≡ x
        → (w ≡ x)
        × ((p ≡ p)
        × (((holds : Bool) → control_of chip (onward_if b) holds (ar_of c) control ≡ control_of chip (onward_if b) holds (ar_of o) control)
        × (past_table rom (ar_of c) (onward_if b) ≡ past_table rom (ar_of o) (onward_if b))))
    unfolding control_of past_table
    by_word true w = (w, (refl, (λ b. refl, refl)))
    by_word false w = (w, (refl, (λ b. refl, refl)))

    alike : (i : Instruction) → ReadAlike chip d e a.from → (ReadsResult i → ReadAlike chip d e a.to) → AgreeAt (operands_of i).implied c o
        → ((rf : ℕ) → i ≡ Peek rf → file_at chip d rf ≡ file_at chip e rf) → ((p : ℕ) → i ≡ Get p → counter ≡ other) → Alike i
    unfolding writes_at holds_at control_of past_table transfer_writes poke_writes
    alike (AluRegister op r m) from to h peeked got = plain (alu_same op a.to _ _ (to (alu_r op r m)) from h)
    alike (AluImmediate op m n4) from to h peeked got = plain (alu_same op a.to n4 n4 (to (alu_m op m n4)) refl h)
    alike (Skip op m n4) from to h peeked got = (skip_same c o op h, (ap (λ (x : ℕ). condition_of op x n4) from, (λ b. refl, refl)))
    alike (Rorc r) from to h peeked got = plain (rw (set_same c o PSW CY h.0, to (rorc r)) (rotate_same c o a.to _ h.0))
    alike (Ld r m) from to h peeked got = plain (rw from)
    alike (St m r) from to h peeked got = plain (rw from)
    alike (MovToIndirect r m) from to h peeked got = plain (rw from)
    alike (MovFromIndirect m r) from to h peeked got = plain (rw from)
    alike (MovImmediate m n4) from to h peeked got = plain refl
    alike (Peek rf) from to h peeked got = by_word (in_file rf) (rw (peeked rf refl))
    alike (Poke rf) from to h peeked got = by_word (in_file rf) (rw h.0)
    alike (Get p) from to h peeked got = by_word (eqb p TMC) (rw (got p refl))
    alike (Put p) from to h peeked got = by_word (eqb p TMM) refl
    alike (Br addr) from to h peeked got = plain refl
    alike (Call addr) from to h peeked got = plain refl
    alike (Stop s) from to h peeked got = plain refl
    alike (Halt s) from to h peeked got = plain refl
    alike (Fixed IncAr) from to h peeked got = plain (rw (ar_same c o h))
    alike (Fixed IncIx) from to h peeked got = plain (rw (ix_same c o h.1.0 h.1.1.0, h.0))
    alike (Fixed Movt) from to h peeked got = rw (ar_same c o h) (plain refl)
    alike (Fixed PushAr) from to h peeked got = rw (ar_same c o h) (plain refl)
    alike (Fixed PopAr) from to h peeked got = plain refl
    alike (Fixed BrAr) from to h peeked got = rw (ar_same c o h) (plain refl)
    alike (Fixed CallAr) from to h peeked got = rw (ar_same c o h) (plain refl)
    alike (Fixed Ret) from to h peeked got = plain refl
    alike (Fixed Retsk) from to h peeked got = plain refl
    alike (Fixed Reti) from to h peeked got = plain refl
    alike (Fixed Ei) from to h peeked got = plain refl
    alike (Fixed Di) from to h peeked got = plain refl
    alike (Fixed Nop) from to h peeked got = plain refl

-- what an instruction answers, by its refusal and by refusals 8 and 31
abbrev answer_by : ℕ → Bool → Bool → Reply
answer_by n past lacks = cond (eqb n 0) (cond past (refused 8) (cond lacks (refused 31) done)) (refused n)

answered : (b past lacks : Bool) (n : ℕ) (m next : Machine)
    → (cond b (cond past (refused_step 8 m) (cond lacks (refused_step 31 m) (completed_step next))) (refused_step n m)).reply
    ≡ cond b (cond past (refused 8) (cond lacks (refused 31) done)) (refused n)
answered true true lacks n m next = refl
answered true false true n m next = refl
answered true false false n m next = refl
answered false past lacks n m next = refl

module _ (chip : Chip) (rom : List ℕ) (signals : Signals) where
  replied : (i : Instruction) (m : Machine)
      → (execute_of chip rom signals i m).reply
      ≡ answer_by (transfer_by chip rom signals i m).refusal (past_table rom (ar_of (cells_of m)) (flow_of i)) (lacks_of chip rom signals i m)
  unfolding execute_of
  replied i m = answered (eqb (transfer_by chip rom signals i m).refusal 0) (past_table rom (ar_of (cells_of m)) (flow_of i)) (lacks_of chip rom signals i m) _ m _

module _ (chip : Chip) (rom : List ℕ) (s t : Signals) where
  module _ (i : Instruction) (m : Machine) (others : List ℕ) (p : Peripherals) (h : Agree chip s t i m (machine_of others p m.control)) where
    abbrev n : Machine
    n = machine_of others p m.control

    abbrev f : Data
    f = data_of m s

    abbrev g : Data
    g = data_of n t

    to_found : address_in chip f (operands_of i).to ≡ address_in chip g (operands_of i).to
    to_found = operand_same chip f g (operands_of i).to h.to h.to_pointer

    from_found : address_in chip f (operands_of i).from ≡ address_in chip g (operands_of i).from
    from_found = operand_same chip f g (operands_of i).from h.from h.from_pointer

    pointer_found : address_in chip f (operands_of i).pointer ≡ address_in chip g (operands_of i).pointer
    pointer_found = pointer_same chip f g i h.to h.from

    found : addresses_of chip f i ≡ addresses_of chip g i
    unfolding addresses_of
    found = rw (to_found, from_found, pointer_found)

    lacks : lacks_of chip rom s i m ≡ lacks_of chip rom t i n
    unfolding lacks_of
    lacks = ap (lacks_at chip) found

    likened : Alike chip f g rom m.control (addresses_of chip f i) (top_of m.control) m.peripherals.counter p.counter i
    unfolding addresses_of
    likened = alike chip f g rom m.control _ _ _ _ i h.source h.result h.implied h.peeked h.got

    holds : holds_of chip f i ≡ holds_of chip g i
    unfolding holds_of
    holds = likened.1.0 ∙ ap (λ (a : Addresses). holds_at chip g a i) found

    transfer : transfer_by chip rom s i m ≡ transfer_by chip rom t i n
    unfolding transfer_by
    transfer = likened.1.1.0 (holds_of chip f i) ∙ ap (λ (b : Bool). control_of chip (flow_of i) b (ar_of others) m.control) holds

    writes : writes_by chip rom s i m ≡ writes_by chip rom t i n
    unfolding writes_of
    writes = likened.0 ∙ ap (λ (a : Addresses). writes_at chip g a i (sources_of rom n)) found

  pub read_law : ReadLaw chip rom s t
  read_law i m others p h = record {
    writes = writes i m others p h;
    settings = settings_same (cells_of m) others i h.implied;
    holds = holds i m others p h;
    transfer = transfer i m others p h;
    reply =
        replied chip rom s i m
        ∙ rw (transfer i m others p h, (likened i m others p h).1.1.1, lacks i m others p h) (sym (replied chip rom t i (machine_of others p m.control)));
  }
