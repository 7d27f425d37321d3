-- The phases of a step, one law for each way through them.
-- Assumes nothing.
use mathlib.Core.Path.{◌≡◌, ◌∙◌, ap, refl, sym}
use mathlib.Core.Bool.{Bool, true, false, cond}
use mathlib.Core.List.{List}
use Prim.Native.Nat.{ℕ}
use native.Mathlib.Omega.{arith}
use lib.Dec.{eqb, leb}
use lib.ListN.{get_or, length}
use Rattle.isa.specs.Answers.{Decoding, is, refused as refused_word}
use Rattle.isa.specs.Decode.{decode_of}
use Rattle.isa.specs.declared.Instruction.{Instruction}
use Rattle.isa.specs.declared.Instruction.TheVariants.{AluRegister, AluImmediate, Skip, Rorc, Ld, St, MovToIndirect, MovFromIndirect, MovImmediate, Peek, Poke, Get, Put, Br, Call, Stop, Halt, Fixed}
use Rattle.memory.specs.Chip.{Chip}
use Rattle.memory.specs.Registers.{ar_of}
use Rattle.memory.specs.Write.{writes_applied}
use Rattle.machine.specs.Parts.{is_marked, cells_of, machine_of}
use Rattle.machine.specs.declared.Control.{Control}
use Rattle.machine.specs.Signals.{Signals}
use Rattle.machine.specs.declared.Machine.{Machine}
use Rattle.control.specs.Control.{Transfer, onwards, with_skip, with_standby}
use Rattle.control.specs.Flow.{flow_of}
use Rattle.control.specs.Transfers.{with_stack}
use Rattle.control.specs.declared.Regs.{Regs}
use Rattle.peripherals.specs.Registers.{is_data}
use Rattle.peripherals.specs.declared.Peripherals.{Peripherals}
use Rattle.operations.specs.Settings.{settings_of}
use Rattle.operations.specs.Writes.{poke_writes, writes_at, writes_of}
use Rattle.cpu.specs.Execute.{written_of, set_of, lacks_of, past_table, transfer_by, execute_of}
use Rattle.cpu.specs.Cycles.{next_cycles}
use Rattle.cpu.specs.Joined.{whole_of, fetched_of}
use Rattle.cpu.specs.Reply.{done, refused, Step, completed_step, standing_step, refused_step}
use Rattle.cpu.specs.Step.{waits, ticked_by, stood_by, woken, unless_refused, decoded_of, pass_over, fetch_of, advance_of}
use Rattle.std.specs.Prelude.{None, Some}

-- what a fetch that is taken apart says
fetched_past : (b : Bool) (w : ℕ) → cond b None (Some w) ≡ None → b ≡ true
fetched_past true w e = refl
fetched_past false w e = absurd (let z : ◌≡◌ {A = ℕ} 0 1 = cc in omega arith)

fetched_word : (b : Bool) (w v : ℕ) → cond b None (Some w) ≡ Some v → (b ≡ false) × (w ≡ v)
fetched_word true w v e = absurd (let z : ◌≡◌ {A = ℕ} 0 1 = cc in omega arith)
fetched_word false w v e = (refl, (cc))

pub past_rom : (rom : List ℕ) (pc : ℕ) → fetched_of rom pc ≡ None → leb (length rom) pc ≡ true
past_rom rom pc e = fetched_past (leb (length rom) pc) (get_or rom pc 0) e

pub word_at : (rom : List ℕ) (pc v : ℕ) → fetched_of rom pc ≡ Some v → (leb (length rom) pc ≡ false) × (get_or rom pc 0 ≡ v)
word_at rom pc v e = fetched_word (leb (length rom) pc) (get_or rom pc 0) v e

other : (b : Bool) (x y : Step) → b ≡ false → y ≡ cond b x y
other true x y e = absurd (let z : ◌≡◌ {A = ℕ} 0 1 = cc in omega arith)
other false x y e = refl

module _ (chip : Chip) (rom : List ℕ) (signals : Signals) where
  -- a refused instruction leaves the record as it came
  settled : Bool → Bool → Bool → Machine → Machine → ℕ → Step
  settled b t l m after k =
      cond b (cond t (refused_step 8 m) (cond l (refused_step 31 m) (completed_step after))) (refused_step k m)

  settled_kept : (b t l : Bool) (m after : Machine) (k n : ℕ) → (settled b t l m after k).reply ≡ refused n
      → (settled b t l m after k).machine ≡ m
  unfolding settled
  settled_kept true true l m after k n e = refl
  settled_kept true false true m after k n e = refl
  settled_kept true false false m after k n e = absurd (let z : ◌≡◌ {A = ℕ} 0 1 = cc in omega arith)
  settled_kept false t l m after k n e = refl

  executed_kept : (i : Instruction) (m : Machine) (n : ℕ) → (execute_of chip rom signals i m).reply ≡ refused n
      → (execute_of chip rom signals i m).machine ≡ m
  unfolding execute_of settled
  executed_kept i m n e =
      let s : Transfer = transfer_by chip rom signals i m in
      settled_kept (eqb s.refusal 0) (past_table rom (ar_of (cells_of m)) (flow_of i)) (lacks_of chip rom signals i m) m
      (machine_of (written_of chip rom signals i m) (set_of chip rom signals i m) s.control) s.refusal n e

  refused_kept : (i : Instruction) (m left : Machine) (n : ℕ) → refused_step n left ≡ execute_of chip rom signals i m → left ≡ m
  refused_kept i m left n e =
      ap (λ (s : Step). s.machine) e ∙ executed_kept i m n (sym (ap (λ (s : Step). s.reply) e))

  not_refused : (n : ℕ) → done ≡ refused n → ⊥
  not_refused n e = let z : ◌≡◌ {A = ℕ} 0 1 = cc in omega arith

  -- a completed instruction leaves the cells that it wrote
  settled_cells : (b t l : Bool) (m after x : Machine) (k : ℕ) → completed_step x ≡ settled b t l m after k → x ≡ after
  unfolding settled
  settled_cells true true l m after x k e = absurd (not_refused 8 (ap (λ (s : Step). s.reply) e))
  settled_cells true false true m after x k e = absurd (not_refused 31 (ap (λ (s : Step). s.reply) e))
  settled_cells true false false m after x k e = ap (λ (s : Step). s.machine) e
  settled_cells false t l m after x k e = absurd (not_refused k (ap (λ (s : Step). s.reply) e))

  completed_cells : (i : Instruction) (m x : Machine) → completed_step x ≡ execute_of chip rom signals i m
      → cells_of x ≡ written_of chip rom signals i m
  unfolding execute_of settled
  completed_cells i m x e =
      let s : Transfer = transfer_by chip rom signals i m in
      ap cells_of (settled_cells (eqb s.refusal 0) (past_table rom (ar_of (cells_of m)) (flow_of i)) (lacks_of chip rom signals i m) m _ x s.refusal e)

  -- what an instruction sets it reads from cells that it does not write
  poked_late : (b : Bool) (rf : ℕ) (m : Machine) → is_data rf ≡ b
      → settings_of (written_of chip rom signals (Poke rf) m) m.peripherals (Poke rf) ≡ set_of chip rom signals (Poke rf) m
  unfolding settings_of written_of writes_of writes_at poke_writes writes_applied
  poked_late true rf m e = rw e
  poked_late false rf m e = rw e

  put_late : (at : ℕ) (m : Machine)
      → settings_of (written_of chip rom signals (Put at) m) m.peripherals (Put at) ≡ set_of chip rom signals (Put at) m
  unfolding settings_of written_of writes_of writes_at writes_applied
  put_late at m = refl

  set_late : (i : Instruction) (m : Machine)
      → settings_of (written_of chip rom signals i m) m.peripherals i ≡ set_of chip rom signals i m
  unfolding settings_of
  set_late (AluRegister op r a) m = refl
  set_late (AluImmediate op a n4) m = refl
  set_late (Skip op a n4) m = refl
  set_late (Rorc r) m = refl
  set_late (Ld r a) m = refl
  set_late (St a r) m = refl
  set_late (MovToIndirect r a) m = refl
  set_late (MovFromIndirect a r) m = refl
  set_late (MovImmediate a n4) m = refl
  set_late (Peek rf) m = refl
  set_late (Poke rf) m = poked_late (is_data rf) rf m refl
  set_late (Get at) m = refl
  set_late (Put at) m = put_late at m
  set_late (Br addr) m = refl
  set_late (Call addr) m = refl
  set_late (Stop s) m = refl
  set_late (Halt h) m = refl
  set_late (Fixed op) m = refl

  -- set from the cells after the instruction
  set_after : (i : Instruction) (m x : Machine) → completed_step x ≡ execute_of chip rom signals i m
      → settings_of (cells_of x) m.peripherals i ≡ set_of chip rom signals i m
  set_after i m x e = ap (λ (cells : List ℕ). settings_of cells m.peripherals i) (completed_cells i m x e) ∙ set_late i m

  module _ (m : Machine) where
    pub stays : waits chip rom signals m ≡ true → standing_step (stood_by signals.pulse m) ≡ advance_of chip rom signals m
    unfolding advance_of
    stays e = rw e

    abbrev tick : Machine → Machine
    tick after = ticked_by (next_cycles rom m) signals.pulse after

    module _ (awake : waits chip rom signals m ≡ false) where
      goes_on : (s : Step) → s ≡ fetch_of chip rom signals (woken m)
          → unless_refused m (tick s.machine) s.reply ≡ advance_of chip rom signals m
      unfolding advance_of
      goes_on s e = rw (awake, ← e)

      pub past : leb (length rom) m.control.pc ≡ true → refused_step 2 m ≡ advance_of chip rom signals m
      unfolding fetch_of
      past p = goes_on (refused_step 2 (woken m)) (rw p)

      module _ (inside : leb (length rom) m.control.pc ≡ false) where
        pub passed_over : is_marked m.control.skip ≡ true → (cycles : ℕ) (on : Control) → cycles ≡ next_cycles rom m
            → on ≡ with_skip false (onwards chip (with_standby 0 m.control))
            → completed_step (ticked_by cycles signals.pulse (machine_of (cells_of m) m.peripherals on)) ≡ advance_of chip rom signals m
        unfolding fetch_of
        passed_over s cycles on e f = rw (e, f) (goes_on (pass_over chip rom signals (woken m)) (rw (inside, s)))

        module _ (plain : is_marked m.control.skip ≡ false) where
          -- a word by what it decodes to
          by_word : (s : Step) (d : Decoding) → decode_of (get_or rom m.control.pc 0) ≡ d
              → s ≡ decoded_of chip rom signals (woken m) d → unless_refused m (tick s.machine) s.reply ≡ advance_of chip rom signals m
          unfolding fetch_of
          by_word s d w e =
              goes_on s
              (rw inside (e ∙ ap (decoded_of chip rom signals (woken m)) (sym w) ∙ other (is_marked m.control.skip) _ _ plain))

          pub undecodable : decode_of (get_or rom m.control.pc 0) ≡ refused_word 3 → refused_step 3 m ≡ advance_of chip rom signals m
          undecodable w = by_word (refused_step 3 (woken m)) (refused_word 3) w refl

          pub executed : (i : Instruction) (s : Step) → decode_of (get_or rom m.control.pc 0) ≡ is i
              → s ≡ execute_of chip rom signals i (woken m) → unless_refused m (tick s.machine) s.reply ≡ advance_of chip rom signals m
          executed i s w e = by_word s (is i) w e

-- an instruction is carried out, or refused, on a machine that does not stay in standby
module _ (chip : Chip) (rom : List ℕ) (signals : Signals) (cells stack : List ℕ) (p : Peripherals) (regs awake : Regs)
    (up : with_stack stack awake ≡ with_standby 0 (with_stack stack regs)) where
  abbrev before : Machine
  before = whole_of cells stack p regs

  abbrev up_and_awake : Machine
  up_and_awake = whole_of cells stack p awake

  same_step : (i : Instruction) → execute_of chip rom signals i up_and_awake ≡ execute_of chip rom signals i (woken before)
  same_step i = ap (λ (k : Control). execute_of chip rom signals i (machine_of cells p k)) up

  module _ (goes : waits chip rom signals before ≡ false) (inside : leb (length rom) regs.pc ≡ false)
      (plain : is_marked regs.skip ≡ false) (i : Instruction) (is-it : decode_of (get_or rom regs.pc 0) ≡ is i) where
    pub carried_out : (cycles : ℕ) (after left : List ℕ) (set : Peripherals) (r : Regs) → cycles ≡ next_cycles rom before
        → completed_step (whole_of after left (settings_of cells p i) r) ≡ execute_of chip rom signals i up_and_awake
        → set ≡ settings_of after p i
        → completed_step (ticked_by cycles signals.pulse (whole_of after left set r)) ≡ advance_of chip rom signals before
    carried_out cycles after left set r n e f =
        let x : Machine = whole_of after left (settings_of cells p i) r in
        rw (n, f ∙ set_after chip rom signals i up_and_awake x e)
        (executed chip rom signals before goes inside plain i (completed_step x) is-it (e ∙ same_step i))

    pub refused_so : (n : ℕ) (after left : List ℕ) → refused_step n (whole_of after left p awake) ≡ execute_of chip rom signals i up_and_awake
        → refused_step n (whole_of after left p regs) ≡ advance_of chip rom signals before
    refused_so n after left e =
        ap (λ (m : Machine). refused_step n (whole_of (cells_of m) m.control.stack p regs))
        (refused_kept chip rom signals i up_and_awake (whole_of after left p awake) n e)
        ∙ executed chip rom signals before goes inside plain i (refused_step n (whole_of after left p awake)) is-it (e ∙ same_step i)
