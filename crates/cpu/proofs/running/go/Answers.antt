use Rattle.machine.proofs.Marks.{is_marked_lem, not_marked}
use mathlib.Core.Path.{◌≡◌, sym, ◌∙◌, ap, subst}
use mathlib.Core.Bool.{Bool, true, cond, ◌&&◌}
use mathlib.Core.List.{List}
use Prim.Native.Nat.{ℕ}
use native.Mathlib.Omega.{arith}
use borrow.Author.Tests.{not-true, not-false}
use lib.Dec.{eqb}
use lib.ListN.{get_or}
use Rattle.memory.specs.Chip.{Chip, chip_of}
use Rattle.memory.proofs.Numbers.{levels_fit}
use Rattle.memory.specs.declared.Model.{Model}
use Rattle.cpu.specs.Reply.{Reply}
use Rattle.cpu.specs.declared.Count.{Count}
use Rattle.cpu.specs.Joined.{whole_of}
use Rattle.cpu.specs.Step.{waits}
use Rattle.machine.specs.Parts.{HALT, is_marked, machine_of, cells_of}
use Rattle.machine.specs.Ranges.{all_in_range}
use Rattle.machine.specs.Signals.{Signals, signals}
use Rattle.machine.specs.declared.Control.{Control}
use Rattle.machine.specs.declared.Machine.{Machine}
use Rattle.peripherals.specs.Parts.{with_timer}
use Rattle.peripherals.specs.Timer.{tick_of}
use Rattle.peripherals.specs.declared.Peripherals.{Peripherals}
use Rattle.cpu.proofs.ArFits.{ar_fits}
use Rattle.cpu.proofs.Costs.{cycles_few, cycles_some}
use Rattle.cpu.proofs.Loop.{Going, Ends, not_so_many, not_in_range, no_budget, stays_so, begun, used, stood, refuses, going}
use Rattle.cpu.proofs.Paced.{ticked_so, still_quiet}
use Rattle.cpu.proofs.running.go.Goals as goal
use Rattle.cpu.proofs.running.go.Goals.{At-loop-steps}

-- what the range test answered for the record put together, it answered for the record
tested : (chip : Chip) (rom : List ℕ) (given : Signals) (m joined : Machine) {b : Bool} → joined ≡ m → b ≡ all_in_range chip rom joined given → all_in_range chip rom m given ≡ b
tested chip rom given m joined e r = ap (λ (x : Machine). all_in_range chip rom x given) (sym e) ∙ sym r

-- at the loop's head
module _ (h : At-loop-steps) where
  abbrev rom : List ℕ
  rom = h.args.rom.now

  abbrev model : Model
  model = h.args.model

  abbrev chip : Chip
  chip = chip_of model

  abbrev given : Signals
  given = signals h.args.input h.args.pulse

  abbrev machine : Machine
  machine = machine_of h.args.cells.now h.args.peripherals h.args.control

  abbrev budget : ℕ
  budget = h.args.budget

  abbrev parts : Peripherals
  parts = with_timer machine.peripherals.registers h.from-timer.result

  abbrev start : Machine
  start = whole_of (cells_of machine) machine.control.stack parts h.regs_of-regs.result

  abbrev so_far : Count
  so_far = record { steps = h.loop-steps.steps; cycles = h.loop-steps.cycles }

  abbrev here : Machine
  here = whole_of h.loop-steps.cells h.loop-steps.stack (with_timer h.loop-steps.registers h.loop-steps.timer) h.loop-steps.regs

  whole : start ≡ machine
  whole =
      ap (λ (k : Control). machine_of (cells_of machine) parts k) h.regs_of-regs.ensures
      ∙ ap (λ (p : Peripherals). machine_of (cells_of machine) p machine.control) h.from-timer.ensures.0

  passed : all_in_range chip rom start given ≡ true
  passed =
      subst (λ (m : Machine). all_in_range chip rom m given ≡ true) (sym whole)
      (tested _ _ _ _ _ h.join.ensures h.all.ensures ∙ not-false _ h.if-not-all.false-raw)

  head : Going chip rom given budget start so_far here
  head =
      h.loop-steps.invariant.0 given.input.directions given.input.release passed
      (sym h.stays_standing.ensures ∙ h.if-stays_standing.false)

  ends : (count : Count) (r : Reply) (m : Machine) → Ends chip rom given budget start count r m → Ends chip rom given budget machine count r m
  ends count r m e = subst (λ (x : Machine). Ends chip rom given budget x count r m) whole e

pub returns-then-budget-gt65535 : goal.returns-then-budget-gt65535
returns-then-budget-gt65535 c =
    let e = not_so_many _ _ _ _ _ c.if-budget-gt65535.true in record { ran = e.run; stepped = e.step }

pub returns-then-not-all : goal.returns-then-not-all
returns-then-not-all c =
    let e = not_in_range _ _ _ _ _ (tested _ _ _ _ _ c.join.ensures c.all.ensures ∙ not-true _ c.if-not-all.true-raw) in record { ran = e.run; stepped = e.step }

pub returns-then-budget-eq0 : goal.returns-then-budget-eq0
returns-then-budget-eq0 c =
    let e = no_budget _ _ _ _ _ (omega arith) (tested _ _ _ _ _ c.join.ensures c.all.ensures ∙ not-false _ c.if-not-all.false-raw) c.if-budget-eq0.true in record { ran = e.run; stepped = e.step }

pub returns-then-stays_standing : goal.returns-then-stays_standing
returns-then-stays_standing c =
    let s = c.args in
    let given : Signals = signals s.input s.pulse in
    let m : Machine = machine_of s.cells.now s.peripherals s.control in
    let mark = ap (λ (k : Control). k.standby) c.regs_of-regs.ensures in
    let stand : waits (chip_of s.model) s.rom.now given m ≡ true
    = ap (λ (k : ℕ). is_marked k && eqb s.input.release 0) (sym mark) ∙ sym c.stays_standing.ensures ∙ c.if-stays_standing.true in
    let after = c.stood.ensures ∙ ap (λ (k : ℕ). cond (eqb k HALT) (tick_of s.peripherals 1 s.pulse) s.peripherals) mark in
    let e = stays_so (chip_of s.model) s.rom.now given s.budget m (omega (arith, c.if-budget-gt65535.false)) (tested _ _ _ _ _ c.join.ensures c.all.ensures ∙ not-false _ c.if-not-all.false-raw) c.if-budget-eq0.false stand _ after in record { ran = e.run; stepped = e.step }

pub loop-steps-init : goal.loop-steps-init
loop-steps-init c =
    (λ directions release fine awake. begun _ _ _ _ _ (omega arith) fine awake, λ n few some. absurd (omega (arith, c.from-timer.ensures.1, few, some)))

pub overflow_add-steps : goal.overflow_add-steps
overflow_add-steps c = omega (arith, c.loop-steps-test.true, c.if-budget-gt65535.false)

pub loop-steps-smaller : goal.loop-steps-smaller
loop-steps-smaller c = omega arith

pub overflow_add-cycles : goal.overflow_add-cycles
overflow_add-cycles c =
    let h = (goal.at.overflow_add-cycles c).At-loop-steps in
    omega (arith, (head h).few, (head h).some, c.in-Ok.ensures.cost, cycles_few (get_or (rom h) (here h).control.pc 0) (here h).control.skip, h.if-budget-gt65535.false)

pub returns-then-regs-ne0 : goal.returns-then-regs-ne0
returns-then-regs-ne0 c =
    let h = (goal.at.returns-then-regs-ne0 c).At-loop-steps in
    let took = c.in-Ok.ensures.cost in
    let quiet = c.in-Ok.ensures.quiet (given h).pulse h.loop-steps.invariant.1 in
    let ticked = ticked_so _ _ (given h).pulse _ _ _ quiet c.pace-timer.ensures.0 c.pace-timer.ensures.1 (rw took (cycles_some (get_or (rom h) (here h).control.pc 0) (here h).control.skip)) _ _ _ in
    let e = ends h _ _ _ (stood _ _ _ _ _ _ _ (head h) c.loop-steps-test.true _ took _ (ticked ∙ c.in-Ok.ensures.advanced (given h).input.directions (given h).input.release (given h).pulse (head h).awake) (is_marked_lem _ c.if-regs-ne0.true)) in
    rw (c.control_of.ensures, c.with.ensures) (record { ran = e.run; stepped = e.step })

pub loop-steps-preserved : goal.loop-steps-preserved
loop-steps-preserved c =
    let h = (goal.at.loop-steps-preserved c).At-loop-steps in
    let took = c.in-Ok.ensures.cost in
    let quiet = c.in-Ok.ensures.quiet (given h).pulse h.loop-steps.invariant.1 in
    let ticked = ticked_so _ _ (given h).pulse _ _ _ quiet c.pace-timer.ensures.0 c.pace-timer.ensures.1 (rw took (cycles_some (get_or (rom h) (here h).control.pc 0) (here h).control.skip)) _ _ _ in (
      λ directions release fine awake.
          let g = h.loop-steps.invariant.0 directions release fine awake in
          going _ _ _ _ _ _ _ g c.loop-steps-test.true (levels_fit (model h)) (ar_fits (model h)) _ took _ (ticked ∙ c.in-Ok.ensures.advanced directions release (given h).pulse g.awake) (not_marked _ c.if-regs-ne0.false),
      still_quiet _ _ (given h).pulse _ _ _ quiet c.pace-timer.ensures.0 c.pace-timer.ensures.1,
    )

pub returns-in-Err : goal.returns-in-Err
returns-in-Err c =
    let h = (goal.at.returns-in-Err c).At-loop-steps in
    let e = ends h _ _ _ (refuses _ _ _ _ _ _ _ (head h) c.loop-steps-test.true _ _ (c.in-Err.ensures.advanced (given h).input.directions (given h).input.release (given h).pulse (head h).awake)) in
    rw (c.control_of-in-Err.ensures, c.with-in-Err.ensures) (record { ran = e.run; stepped = e.step })

pub returns : goal.returns
returns c =
    let h = (goal.at.returns c).At-loop-steps in
    let all : h.loop-steps.steps ≡ budget h = omega (arith, c.loop-steps-test.false, (head h).some) in
    let e = rw all at (ends h _ _ _ (used _ _ _ _ _ _ _ (head h) c.loop-steps-test.false)) in
    rw (c.control_of-2.ensures, c.with-2.ensures) (record { ran = e.run; stepped = e.step })
