-- One turn of a run.
-- Assumes nothing.
use mathlib.Core.Path.{◌≡◌, ◌∙◌, ap, refl, sym}
use mathlib.Core.Bool.{Bool, true, false, and-false}
use mathlib.Core.List.{List}
use Prim.Native.Nat.{ℕ, suc, ◌+◌, ◌-◌, ◌<◌, ◌≤◌}
use native.Mathlib.Omega.{arith}
use borrow.Author.Tests.{le-leb, lt-leb}
use lib.Dec.{lit≤}
use Rattle.laws.proofs.Booleans.{either}
use Rattle.memory.specs.Chip.{Chip}
use Rattle.cpu.specs.Reply.{Reply, done, in_standby, refused, refusal_of, Step, completed_step, refused_step}
use Rattle.machine.specs.Ranges.{machine_in_range, signals_in_range, rom_in_range, all_in_range, budget_in_range}
use Rattle.cpu.specs.Run.{Run, run_from, run_of, step_run, after_step, ended}
use Rattle.cpu.specs.Step.{is_standing, step_of, advance_of}
use Rattle.cpu.specs.Cost.{none, plus, cost_of, step_cost}
use Rattle.cpu.specs.Cycles.{next_cycles}
use Rattle.cpu.specs.declared.Count.{Count}
use Rattle.machine.specs.Signals.{Signals}
use Rattle.machine.specs.declared.Machine.{Machine}
use Rattle.cpu.proofs.Costs.{plus_none, none_plus}

module _ (chip : Chip) (rom : List ℕ) (signals : Signals) where
  pub all_of : (m : Machine) → machine_in_range chip m ≡ true → signals_in_range signals ≡ true → rom_in_range chip rom ≡ true
      → all_in_range chip rom m signals ≡ true
  unfolding all_in_range
  all_of m r i w = rw (r, i, w)

  pub step_advances : (m : Machine) → all_in_range chip rom m signals ≡ true → step_of chip rom signals m ≡ advance_of chip rom signals m
  unfolding step_of
  step_advances m e = rw e

  pub step_refused : (m : Machine) → all_in_range chip rom m signals ≡ false → refused_step 1 m ≡ step_of chip rom signals m
  unfolding step_of
  step_refused m e = rw e

  -- a turn on a machine in range, by the step that it takes
  turn : (left : ℕ) (count : Count) (m : Machine) (s : Step) → s ≡ step_of chip rom signals m
      → run_from chip rom signals (suc left) count m
      ≡ after_step (plus count (cost_of (next_cycles rom m) s.reply)) s.machine s.reply (run_from chip rom signals left (plus count (cost_of (next_cycles rom m) s.reply)) s.machine)
  unfolding run_from
  turn left count m s e =
      ap (λ (x : Step).
      after_step (plus count (cost_of (next_cycles rom m) x.reply)) x.machine x.reply (run_from chip rom signals left (plus count (cost_of (next_cycles rom m) x.reply)) x.machine))
      (sym e)

  module _ (budget : ℕ) (count : Count) (more : count.steps < budget) (m : Machine) (fine : all_in_range chip rom m signals ≡ true) where
    abbrev here : Run
    here = run_from chip rom signals (budget - count.steps) count m

    -- with one step more, where it is completed
    abbrev counted : Count
    counted = plus count (cost_of (next_cycles rom m) done)

    taken : (s : Step) → s ≡ advance_of chip rom signals m
        → here ≡ after_step (plus count (cost_of (next_cycles rom m) s.reply)) s.machine s.reply (run_from chip rom signals (budget - (count.steps + 1)) (plus count (cost_of (next_cycles rom m) s.reply)) s.machine)
    taken s e =
        let l : suc (budget - (count.steps + 1)) ≡ budget - count.steps = omega arith in
        rw (← l) (turn (budget - (count.steps + 1)) count m s (e ∙ sym (step_advances m fine)))

    -- a completed step, and the run goes on
    pub goes_on : (after : Machine) → completed_step after ≡ advance_of chip rom signals m → is_standing after ≡ false
        → here ≡ run_from chip rom signals (budget - counted.steps) counted after
    goes_on after e b = taken (completed_step after) e ∙ rw b

    -- a completed step that leaves the machine standing
    pub stands : (after : Machine) → completed_step after ≡ advance_of chip rom signals m → is_standing after ≡ true
        → here ≡ ended counted 0 after
    stands after e b = taken (completed_step after) e ∙ rw b

    not_completed : (r : Reply) (after : Machine) (rest : Run) → (r ≡ done → ⊥)
        → after_step (plus count (cost_of (next_cycles rom m) r)) after r rest ≡ ended count (refusal_of r) after
    not_completed done after rest n = absurd (n refl)
    not_completed in_standby after rest n = ap (λ (k : Count). ended k 0 after) (plus_none count)
    not_completed (refused k) after rest n = ap (λ (j : Count). ended j k after) (plus_none count)

    -- a step that is not completed
    pub breaks_off : (r : Reply) (after : Machine) → record { reply = r; machine = after } ≡ advance_of chip rom signals m → (r ≡ done → ⊥)
        → here ≡ ended count (refusal_of r) after
    breaks_off r after e n = taken (record { reply = r; machine = after }) e ∙ not_completed r after _ n

  -- the budget is used up
  pub used_up : (budget : ℕ) (count : Count) (m : Machine) → budget ≤ count.steps → run_from chip rom signals (budget - count.steps) count m ≡ ended count 0 m
  unfolding run_from
  used_up budget count m h =
      let e : budget - count.steps ≡ 0 = omega arith in
      rw e

  -- how a run begins
  pub begins : (budget : ℕ) (m : Machine) → budget ≤ 65535 → all_in_range chip rom m signals ≡ true
      → run_from chip rom signals budget none m ≡ run_of chip rom signals budget m
  unfolding run_of budget_in_range
  begins budget m h r = rw (r, le-leb budget 65535 h)

  pub budget_refused : (budget : ℕ) (m : Machine) → 65535 < budget → ended none 1 m ≡ run_of chip rom signals budget m
  unfolding run_of budget_in_range
  budget_refused budget m h = rw (lt-leb budget 65535 h, and-false _)

  pub range_refused : (budget : ℕ) (m : Machine) → all_in_range chip rom m signals ≡ false → ended none 1 m ≡ run_of chip rom signals budget m
  unfolding run_of
  range_refused budget m r = rw r

  -- a run of one step that has been taken
  one : (count : Count) (m : Machine) (r : Reply) → after_step count m r (ended count 0 m) ≡ ended count (refusal_of r) m
  one count m done = either (λ (x : Run). x ≡ ended count 0 m) (is_standing m) (ended count 0 m) (ended count 0 m) refl refl
  one count m in_standby = refl
  one count m (refused n) = refl

  -- a run of 1 is a step, with what it counts for
  single_from : (m : Machine) → run_from chip rom signals 1 none m ≡ step_run chip rom signals m
  unfolding run_from
  single_from m =
      let s = step_of chip rom signals m in
      one (plus none (step_cost chip rom signals m)) s.machine s.reply ∙ ap (λ (k : Count). ended k (refusal_of s.reply) s.machine) (none_plus (step_cost chip rom signals m))

  single_by : (m : Machine) (b : Bool) → all_in_range chip rom m signals ≡ b → run_of chip rom signals 1 m ≡ step_run chip rom signals m
  single_by m true e = sym (begins 1 m (lit≤ tt) e) ∙ single_from m
  single_by m false e = sym (range_refused 1 m e) ∙ ap (λ (s : Step). ended (cost_of (next_cycles rom m) s.reply) (refusal_of s.reply) s.machine) (step_refused m e)

  pub single : (m : Machine) → run_of chip rom signals 1 m ≡ step_run chip rom signals m
  single m = single_by m (all_in_range chip rom m signals) refl
