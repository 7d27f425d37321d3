-- From what the control functions and the data functions answer to the step of an instruction.
-- Assumes nothing.
use mathlib.Core.Path.{◌≡◌, ◌∙◌, ap, refl, sym, subst}
use mathlib.Core.Bool.{Bool, true, false}
use mathlib.Core.List.{List}
use Prim.Native.Nat.{ℕ}
use native.Mathlib.Omega.{arith}
use Rattle.std.specs.Prelude.{cond, Result, Ok, Err}
use Rattle.std.specs.Result.{IsErrAnd}
use Rattle.isa.specs.declared.Instruction.{Instruction}
use Rattle.memory.specs.Chip.{Chip}
use Rattle.memory.specs.Registers.{ar_of}
use Rattle.memory.specs.Write.{writes_applied}
use Rattle.machine.specs.Parts.{machine_of}
use Rattle.machine.specs.Refusals.{number_of}
use Rattle.machine.specs.declared.Control.{Control}
use Rattle.machine.specs.Signals.{Signals}
use Rattle.peripherals.specs.declared.Peripherals.{Peripherals}
use Rattle.machine.specs.declared.Machine.{Machine}
use Rattle.machine.specs.declared.Refusal.{Refusal}
use Rattle.machine.specs.declared.Refusal.TheVariants.{MissingCell}
use Rattle.control.specs.Control.{Transfer, control_of, goes, onward_of, refused_control}
use Rattle.control.specs.Flow.{flow_of}
use Rattle.control.specs.Transfers.{transfer_of, with_stack}
use Rattle.control.specs.declared.Flow.TheVariants.{Onward}
use Rattle.control.specs.declared.Regs.{Regs}
use Rattle.control.proofs.Keeps.{Keeps, keeps}
use Rattle.control.proofs.Numbers.{number_not_0}
use Rattle.operations.specs.Data.{Data}
use Rattle.operations.specs.Operands.{addresses_of, lacks_at}
use Rattle.operations.specs.Settings.{settings_of}
use Rattle.operations.specs.Writes.{holds_at, holds_of, writes_at, writes_of}
use Rattle.operations.specs.declared.Addresses.{Addresses}
use Rattle.cpu.specs.Execute.{execute_of, written_of, lacks_of, transfer_by, past_table, data_of, sources_of}
use Rattle.cpu.specs.Joined.{executed_of, whole_of}
use Rattle.cpu.specs.Reply.{completed_step, refused_step}
use Rattle.cpu.proofs.Lacking.{lacks}

-- a refusal that `?` hands on
pub handed_on : {T : Type 0} (r : Result T Refusal) (q : Refusal) → IsErrAnd r (λ y. y ≡ q) → r ≡ Err q
handed_on (Ok x) q h = absurd h
handed_on (Err y) q h = ap Err h

-- what the test for missing cells answers
abbrev tried : Bool → Result (Unit {0}) Refusal
tried lacking = cond lacking (Err MissingCell) (Ok tt)

missing : (b : Bool) (q : Refusal) → Err q ≡ tried b → (b ≡ true) × (q ≡ MissingCell)
missing true q e = (refl, cc)
missing false q e = absurd (let z : ◌≡◌ {A = ℕ} 0 1 = cc in omega arith)

there : (b : Bool) (u : Unit {0}) → Ok u ≡ tried b → b ≡ false
there true u e = absurd (let z : ◌≡◌ {A = ℕ} 0 1 = cc in omega arith)
there false u e = refl

-- a skip's condition at the address that was found
pub told : (chip : Chip) (d : Data) (i : Instruction) (a : Addresses) → a ≡ addresses_of chip d i → holds_at chip d a i ≡ holds_of chip d i
unfolding holds_of
told chip d i a found = rw (← found)

module _ (chip : Chip) (rom : List ℕ) (signals : Signals) (cells stack : List ℕ) (p : Peripherals) (regs : Regs) (i : Instruction) where
  abbrev before : Machine
  before = whole_of cells stack p regs

  abbrev shift : Transfer
  shift = transfer_by chip rom signals i before

  -- the writes at the addresses that were found
  module _ (a : Addresses) (found : a ≡ addresses_of chip (data_of before signals) i) where
    pub written : (after : List ℕ)
        → after ≡ writes_applied chip cells (writes_at chip (data_of before signals) a i (sources_of rom before))
        → after ≡ written_of chip rom signals i before
    unfolding written_of writes_of
    written after e = rw (← found) e

    -- whether the chip lacks a cell there
    pub lacking : {b : Bool} → lacks_at chip a ≡ b → lacks_of chip rom signals i before ≡ b
    unfolding lacks_of
    lacking e = rw (← found) e

  -- control goes on, no table is missed and no cell
  pub completes : (after left : List ℕ) (r : Regs) → goes (with_stack left r) ≡ shift → past_table rom (ar_of cells) (flow_of i) ≡ false
      → lacks_of chip rom signals i before ≡ false → after ≡ written_of chip rom signals i before
      → completed_step (whole_of after left (settings_of cells p i) r) ≡ execute_of chip rom signals i before
  unfolding execute_of
  completes after left r e t l h = rw (← e, t, l, h)

  -- control goes on, and the table is missed
  pub misses : (left : List ℕ) (r : Regs) → goes (with_stack left r) ≡ shift → past_table rom (ar_of cells) (flow_of i) ≡ true
      → refused_step 8 before ≡ execute_of chip rom signals i before
  unfolding execute_of
  misses left r e t = rw (← e, t)

  kept : Keeps (with_stack stack regs) shift
  unfolding transfer_by
  kept = keeps chip (with_stack stack regs) (flow_of i) (holds_of chip (data_of before signals) i) (ar_of cells)

  pub refuses : (q : Refusal) (left : List ℕ) → refused_control (number_of q) (with_stack left regs) ≡ shift
      → refused_step (number_of q) (whole_of cells left p regs) ≡ execute_of chip rom signals i before
  unfolding execute_of
  refuses q left e =
      let k : Keeps (with_stack stack regs) (refused_control (number_of q) (with_stack left regs))
      = subst (Keeps (with_stack stack regs)) (sym e) kept in
      rw (← e, number_not_0 q) (ap (λ (c : Control). refused_step (number_of q) (machine_of cells p c)) (k (number_not_0 q)))

  -- an instruction that writes no cell
  pub moves : (q : Result Regs Refusal) (left : List ℕ) → transfer_of left regs q ≡ shift → past_table rom (ar_of cells) (flow_of i) ≡ false
      → lacks_of chip rom signals i before ≡ false → cells ≡ written_of chip rom signals i before → executed_of cells left (settings_of cells p i) p regs q ≡ execute_of chip rom signals i before
  moves (Ok r) left e t l h = completes cells left r e t l h
  moves (Err q) left e t l h = refuses q left e

  -- an instruction with operands, at the addresses that were found, by whether the chip lacks a cell there
  module _ (a : Addresses) (found : a ≡ addresses_of chip (data_of before signals) i) where
    pub lacked : (e : Refusal) → Err e ≡ tried (lacks_at chip a) → (q : Result Regs Refusal) → IsErrAnd q (λ y. y ≡ e)
        → executed_of cells stack (settings_of cells p i) p regs q ≡ execute_of chip rom signals i before
    lacked e t q h =
        let m = missing (lacks_at chip a) e t in
        rw (handed_on q e h, m.1) (lacks chip rom signals before i (lacking a found m.0))

    -- it goes on to the next word
    pub carried : (u : Unit {0}) → Ok u ≡ tried (lacks_at chip a) → (k : Instruction) → i ≡ k → flow_of k ≡ Onward → (after : List ℕ) (r : Regs)
        → goes (with_stack stack r) ≡ onward_of chip false (with_stack stack regs)
        → after ≡ writes_applied chip cells (writes_at chip (data_of before signals) a k (sources_of rom before))
        → executed_of after stack (settings_of cells p i) p regs (Ok r) ≡ execute_of chip rom signals i before
    unfolding transfer_by control_of past_table
    carried u t k e f after r g h =
        let onto : flow_of i ≡ Onward = ap flow_of e ∙ f in
        completes after stack r (rw onto g) (rw onto) (lacking a found (there (lacks_at chip a) u t)) (written a found after (rw e h))

    -- a cell is there that the chip has
    pub held : (u : Unit {0}) → Ok u ≡ tried (lacks_at chip a) → lacks_of chip rom signals i before ≡ false
    held u t = lacking a found (there (lacks_at chip a) u t)
