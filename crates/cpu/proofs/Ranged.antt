-- A machine in range stays so under every step.
-- Assumes nothing.
use mathlib.Core.Path.{◌≡◌, refl}
use mathlib.Core.Bool.{Bool, true, false, cond}
use mathlib.Core.List.{List}
use Prim.Native.Nat.{ℕ, ◌^◌, ◌<◌, ◌≤◌}
use native.Mathlib.Omega.{arith}
use borrow.Author.Tests.{leb-false, eqb-false}
use lib.Dec.{eqb, leb, lit≤}
use lib.ListN.{get_or, length}
use Rattle.isa.specs.Answers.{Decoding, is, refused as refused_word}
use Rattle.isa.specs.Decode.{decode_of}
use Rattle.isa.specs.declared.Instruction.{Instruction}
use Rattle.laws.proofs.Booleans.{either}
use Rattle.laws.proofs.Wrap.{wrap_below}
use Rattle.memory.specs.Chip.{Chip}
use Rattle.memory.specs.Range.{cells_in_range}
use Rattle.memory.specs.Registers.{ar_of, window_of, low_byte_of}
use Rattle.memory.proofs.Writes.{ranged}
use Rattle.peripherals.specs.Range.{peripherals_in_range}
use Rattle.peripherals.specs.declared.Peripherals.{Peripherals}
use Rattle.peripherals.proofs.Ticks.{tick_laws}
use Rattle.peripherals.proofs.Writes.{peripheral_laws}
use Rattle.machine.specs.Parts.{is_marked, cells_of, machine_of, HALT}
use Rattle.machine.specs.Ranges.{places, machine_in_range, all_in_range}
use Rattle.machine.specs.declared.Control.{Control}
use Rattle.machine.specs.Signals.{Signals}
use Rattle.machine.specs.declared.Machine.{Machine}
use Rattle.control.specs.Control.{Transfer, goes, refused_control, jump_to, mark_of, with_skip, pushed as pushedOf, popped as poppedOf, top_of, next_of, onwards, unless_full, unless_empty, by_ar_of, control_of, branch_of, call_of, return_of, push_of, pop_of, table_of, standby_of, onward_of}
use Rattle.control.specs.Flow.{flow_of}
use Rattle.control.specs.declared.Rest.{Rest}
use Rattle.control.specs.declared.Rest.TheVariants.{Halt, Stop}
use Rattle.control.specs.declared.ArOp.{ArOp}
use Rattle.control.specs.declared.ArOp.TheVariants as code
use Rattle.control.specs.declared.Flow.{Flow}
use Rattle.control.specs.declared.Flow.TheVariants.{Onward, Skips, Branches, Calls, Returns, ReadsTable, StandsBy, ByAr, Refused}
use Rattle.operations.proofs.Sets.{sets}
use Rattle.operations.specs.Settings.{settings_of}
use Rattle.operations.specs.Writes.{holds_of, writes_of}
use Rattle.cpu.specs.Execute.{data_of, sources_of, set_of, lacks_of, past_table, written_of, transfer_by, execute_of}
use Rattle.cpu.specs.Cycles.{next_cycles}
use Rattle.cpu.specs.Reply.{Reply, done, in_standby, refused, Step, completed_step, standing_step, refused_step}
use Rattle.cpu.specs.Step.{waits, ticked_by, stood_by, woken, unless_refused, decoded_of, pass_over, fetch_of, advance_of, step_of}
use Rattle.cpu.proofs.RangeParts.{machine_parts}
use Rattle.cpu.proofs.Levels.{Fine, fine, in_range_lem, marks_in_range_lem, jumped, went_on, with_skip_lem, with_standby_lem, pushed, popped, top_below}

-- what AR holds can be an address, in cells that are in range
abbrev pub ArFits : Chip → Type 0
ArFits chip = (cells : List ℕ) → cells_in_range chip cells ≡ true → ar_of cells < 2 ^ chip.pc_bits

mark_below : (rest : Rest) → mark_of rest ≤ 2
mark_below Halt = lit≤ tt
mark_below Stop = lit≤ tt

-- what an instruction sets keeps the peripherals in range
set_in_range : (cells : List ℕ) (p : Peripherals) (i : Instruction) → peripherals_in_range p ≡ true → peripherals_in_range (settings_of cells p i) ≡ true
set_in_range cells p i h =
    sets cells p (λ (i : Instruction) (x : Peripherals). peripherals_in_range x ≡ true) (λ i. h)
    (λ rf. (peripheral_laws p).poked rf (window_of cells) h) (λ at. (peripheral_laws p).put (low_byte_of cells) (omega arith) h) i

module _ (chip : Chip) (small : chip.levels ≤ places) where
  -- the control after a change, refused or not
  abbrev Good : Transfer → Type 0
  Good s = Fine chip small s.control

  module _ (c : Control) (f : Fine chip small c) where
    full : (after : Control) → (c.levels < chip.levels → Fine chip small after) → (b : Bool) → leb chip.levels c.levels ≡ b
        → Good (cond b (refused_control 6 c) (goes after))
    full after h true e = f
    full after h false e = h (leb-false chip.levels c.levels e)

    empty : (after : Control) → (0 < c.levels → Fine chip small after) → (b : Bool) → eqb c.levels 0 ≡ b
        → Good (cond b (refused_control 7 c) (goes after))
    empty after h true e = f
    empty after h false e = h (let n : c.levels ≡ 0 → ⊥ = eqb-false c.levels 0 e in omega arith)

    reach : (to : ℕ) (s : Transfer) → (to < 2 ^ chip.pc_bits → Good s) → (b : Bool) → leb (2 ^ chip.pc_bits) to ≡ b
        → Good (cond b (refused_control 5 c) s)
    reach to s h true e = f
    reach to s h false e = h (leb-false (2 ^ chip.pc_bits) to e)

    unless_full_lem : (after : Control) → (c.levels < chip.levels → Fine chip small after) → Good (unless_full chip c after)
    unless_full_lem after h = full after h (leb chip.levels c.levels) refl

    unless_empty_lem : (after : Control) → (0 < c.levels → Fine chip small after) → Good (unless_empty c after)
    unless_empty_lem after h = empty after h (eqb c.levels 0) refl

    called : (to : ℕ) → to < 2 ^ chip.pc_bits → Good (call_of chip to c)
    unfolding call_of
    called to h =
        let next : ℕ = next_of chip c.pc in
        unless_full_lem (jump_to to (pushedOf next c))
        (λ l. jumped chip small to (pushedOf next c) h (pushed chip small next c (wrap_below chip.pc_bits c.pc) l f))

    returned : (skip : Bool) → Good (return_of skip c)
    unfolding return_of
    returned skip =
        unless_empty_lem (with_skip skip (jump_to (top_of c) (poppedOf c)))
        (λ l. with_skip_lem chip small skip (jump_to (top_of c) (poppedOf c)) (jumped chip small (top_of c) (poppedOf c) (top_below chip small c l f) (popped chip small c l f)))

    went : (skip : Bool) → Good (onward_of chip skip c)
    unfolding onward_of
    went skip = with_skip_lem chip small skip (onwards chip c) (went_on chip small c f)

    by_ar : (op : ArOp) (ar : ℕ) → ar < 2 ^ chip.pc_bits → Good (by_ar_of chip op ar c)
    unfolding push_of pop_of
    by_ar code.Br ar h = jumped chip small ar c h f
    by_ar code.Call ar h = called ar h
    by_ar code.Push ar h = unless_full_lem (onwards chip (pushedOf ar c)) (λ l. went_on chip small (pushedOf ar c) (pushed chip small ar c h l f))
    by_ar code.Pop ar h = unless_empty_lem (onwards chip (poppedOf c)) (λ l. went_on chip small (poppedOf c) (popped chip small c l f))

    pub shifted : (g : Flow) (holds : Bool) (ar : ℕ) → ar < 2 ^ chip.pc_bits → Good (control_of chip g holds ar c)
    unfolding control_of branch_of table_of standby_of
    shifted Onward holds ar h = went false
    shifted Skips holds ar h = went holds
    shifted (Branches to) holds ar h = reach to (goes (jump_to to c)) (λ l. jumped chip small to c l f) (leb (2 ^ chip.pc_bits) to) refl
    shifted (Calls to) holds ar h = reach to (call_of chip to c) (called to) (leb (2 ^ chip.pc_bits) to) refl
    shifted (Returns skip) holds ar h = returned skip
    shifted ReadsTable holds ar h = unless_full_lem (onwards chip c) (λ l. went_on chip small c f)
    shifted (StandsBy rest) holds ar h = with_standby_lem chip small (mark_of rest) (onwards chip c) (mark_below rest) (went_on chip small c f)
    shifted (ByAr op) holds ar h = by_ar op ar h
    shifted (Refused n) holds ar h = f

  abbrev R : Machine → Type 0
  R m = machine_in_range chip m ≡ true

  whole : (cells : List ℕ) (p : Peripherals) (c : Control) → cells_in_range chip cells ≡ true → peripherals_in_range p ≡ true
      → Fine chip small c → R (machine_of cells p c)
  unfolding machine_in_range
  whole cells p c e h f = rw (e, h, in_range_lem chip small c f, marks_in_range_lem chip small c f)

  -- the three parts of a machine in range
  pub record Parts (m : Machine) : Type 0 where
    pub cells : cells_in_range chip (cells_of m) ≡ true
    pub peripherals : peripherals_in_range m.peripherals ≡ true
    pub control : Fine chip small m.control

  parts : (m : Machine) → R m → Parts m
  parts m r =
      let p = machine_parts chip m r in
      record { cells = p.0; peripherals = p.1.1.1; control = fine chip small m.control p.1.0 p.1.1.0 }

  ticks : (cycles pulse : ℕ) (m : Machine) → R m → R (ticked_by cycles pulse m)
  ticks cycles pulse m r =
      let p = parts m r in
      whole (cells_of m) _ m.control p.cells ((tick_laws m.peripherals cycles pulse).ranged p.peripherals) p.control

  -- the record that a step leaves is in range
  abbrev Ranged : Step → Type 0
  Ranged s = R s.machine

  left : (m after : Machine) (o : Reply) → R m → R after → R (unless_refused m after o).machine
  left m after done p q = q
  left m after in_standby p q = q
  left m after (refused n) p q = p

  module _ (fits : ArFits chip) (rom : List ℕ) (signals : Signals) where
    executes : (i : Instruction) (m : Machine) → R m → R (execute_of chip rom signals i m).machine
    unfolding execute_of transfer_by written_of
    executes i m r =
        let p = parts m r in
        let t : Transfer = transfer_by chip rom signals i m in
        let after : Machine = machine_of (written_of chip rom signals i m) (set_of chip rom signals i m) t.control in
        let ws = writes_of chip (data_of m signals) i (sources_of rom m) in
        let past : Bool = past_table rom (ar_of (cells_of m)) (flow_of i) in
        let lacks : Bool = lacks_of chip rom signals i m in
        let rest : Step = cond lacks (refused_step 31 m) (completed_step after) in
        either Ranged (eqb t.refusal 0)
        (cond past (refused_step 8 m) rest) (refused_step t.refusal m)
        (either Ranged past (refused_step 8 m) rest r
        (either Ranged lacks (refused_step 31 m) (completed_step after) r
        (whole (written_of chip rom signals i m) _ t.control (ranged chip ws (cells_of m) p.cells)
        (set_in_range (cells_of m) m.peripherals i p.peripherals)
        (shifted m.control p.control (flow_of i) (holds_of chip (data_of m signals) i) (ar_of (cells_of m)) (fits (cells_of m) p.cells)))))
        r

    decodes : (m : Machine) (d : Decoding) → R m → R (decoded_of chip rom signals m d).machine
    decodes m (is i) r = executes i m r
    decodes m (refused_word n) r = r

    over : (m : Machine) → R m → R (pass_over chip rom signals m).machine
    over m r =
        let p = parts m r in
        whole (cells_of m) _ _ p.cells p.peripherals
        (with_skip_lem chip small false (onwards chip m.control) (went_on chip small m.control p.control))

    fetches : (m : Machine) → R m → R (fetch_of chip rom signals m).machine
    unfolding fetch_of
    fetches m r =
        let word = decode_of (get_or rom m.control.pc 0) in
        let d = decoded_of chip rom signals m word in
        let skip : Bool = is_marked m.control.skip in
        either Ranged (leb (length rom) m.control.pc) (refused_step 2 m) (cond skip (pass_over chip rom signals m) d) r
        (either Ranged skip (pass_over chip rom signals m) d (over m r) (decodes m word r))

    pub advances : (m : Machine) → R m → R (advance_of chip rom signals m).machine
    unfolding advance_of
    advances m r =
        let p = parts m r in
        let w : R (woken m) = whole (cells_of m) _ _ p.cells p.peripherals (with_standby_lem chip small 0 m.control (lit≤ tt) p.control) in
        let s = fetch_of chip rom signals (woken m) in
        let after : Machine = ticked_by (next_cycles rom m) signals.pulse s.machine in
        let stood : Machine = stood_by signals.pulse m in
        either Ranged (waits chip rom signals m) (standing_step stood) (unless_refused m after s.reply)
        (either R (eqb m.control.standby HALT) (ticked_by 1 signals.pulse m) m (ticks 1 signals.pulse m r) r)
        (left m after s.reply r (ticks (next_cycles rom m) signals.pulse s.machine (fetches (woken m) w)))

    pub steps : (m : Machine) → R m → R (step_of chip rom signals m).machine
    unfolding step_of
    steps m r = either Ranged (all_in_range chip rom m signals) (advance_of chip rom signals m) (refused_step 1 m) (advances m r) r
