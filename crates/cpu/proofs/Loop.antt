-- The loop of a run: what holds at its head, and how it ends. A step is the run of one.
-- Assumes nothing.
use mathlib.Core.Path.{◌≡◌, ◌∙◌, ap, refl, sym, subst}
use mathlib.Core.Bool.{Bool, true, false, cond}
use mathlib.Core.List.{List}
use Prim.Native.Nat.{ℕ, ◌-◌, ◌*◌, ◌<◌, ◌≤◌}
use native.Mathlib.Omega.{arith}
use lib.Dec.{eqb}
use lib.ListN.{get_or}
use Rattle.memory.specs.Chip.{Chip}
use Rattle.cpu.specs.Reply.{Reply, done, in_standby, refused, refusal_of, Step, completed_step, standing_step, refused_step}
use Rattle.machine.specs.Ranges.{all_in_range, machine_in_range, places}
use Rattle.cpu.specs.Cost.{none, plus, cost_of}
use Rattle.cpu.specs.Cycles.{next_cycles}
use Rattle.cpu.specs.declared.Count.{Count}
use Rattle.cpu.specs.Run.{run_from, run_of, ended}
use Rattle.cpu.specs.Step.{is_standing, waits, step_of, advance_of}
use Rattle.machine.specs.Parts.{HALT, cells_of, machine_of, with_peripherals}
use Rattle.machine.specs.Signals.{Signals}
use Rattle.peripherals.specs.Timer.{tick_of}
use Rattle.peripherals.specs.declared.Peripherals.{Peripherals}
use Rattle.machine.specs.declared.Machine.{Machine}
use Rattle.cpu.proofs.Costs.{cycles_few}
use Rattle.cpu.proofs.RangeParts.{all_parts}
use Rattle.cpu.proofs.Phases.{stays}
use Rattle.cpu.proofs.Ranged.{ArFits, advances}
use Rattle.cpu.proofs.Turns.{all_of, step_advances, step_refused, goes_on, stands, breaks_off, used_up, begins, budget_refused, range_refused}

-- at the head, after so many steps from a start
pub record Going (chip : Chip) (rom : List ℕ) (signals : Signals) (budget : ℕ) (start : Machine) (count : Count) (m : Machine) : Type 0 where
  pub some : count.steps ≤ budget
  pub few : count.cycles ≤ 2 * count.steps
  pub fine : all_in_range chip rom m signals ≡ true
  pub awake : waits chip rom signals m ≡ false
  pub rest : run_from chip rom signals (budget - count.steps) count m ≡ run_of chip rom signals budget start
  pub first : count.steps ≡ 0 → m ≡ start
  pub one : count.steps ≡ 1 → completed_step m ≡ step_of chip rom signals start

-- at the end, with the answer of the last step
pub record Ends (chip : Chip) (rom : List ℕ) (signals : Signals) (budget : ℕ) (start : Machine) (count : Count) (r : Reply) (m : Machine) : Type 0 where
  pub run : ended count (refusal_of r) m ≡ run_of chip rom signals budget start
  pub step : budget ≡ 1 → record { reply = r; machine = m } ≡ step_of chip rom signals start

module _ (chip : Chip) (rom : List ℕ) (signals : Signals) (budget : ℕ) (start : Machine) where
  pub not_so_many : 65535 < budget → Ends chip rom signals budget start none (refused 1) start
  not_so_many h =
      record { run = budget_refused chip rom signals budget start h; step = λ e. absurd (omega arith) }

  pub not_in_range : all_in_range chip rom start signals ≡ false → Ends chip rom signals budget start none (refused 1) start
  not_in_range r =
      record { run = range_refused chip rom signals budget start r; step = λ e. step_refused chip rom signals start r }

  module _ (small : budget ≤ 65535) (fine : all_in_range chip rom start signals ≡ true) where
    pub no_budget : budget ≡ 0 → Ends chip rom signals budget start none done start
    unfolding run_from
    no_budget z =
        record { run = ap (λ (k : ℕ). run_from chip rom signals k none start) (sym z) ∙ begins chip rom signals budget start small fine; step = λ e. absurd (omega arith) }

    -- HALT's moves the timer, and nothing else
    stood_part : (b : Bool) (ticked : Peripherals)
        → machine_of (cells_of start) (cond b ticked start.peripherals) start.control ≡ cond b (with_peripherals ticked start) start
    stood_part true ticked = refl
    stood_part false ticked = refl

    pub stays_so : (budget ≡ 0 → ⊥) → waits chip rom signals start ≡ true → (after : Peripherals)
        → after ≡ cond (eqb start.control.standby HALT) (tick_of start.peripherals 1 signals.pulse) start.peripherals
        → Ends chip rom signals budget start none in_standby (machine_of (cells_of start) after start.control)
    stays_so some s after a =
        let l : budget - 0 ≡ budget = omega arith in
        let whole = ap (λ (p : Peripherals). machine_of (cells_of start) p start.control) a ∙ stood_part (eqb start.control.standby HALT) _ in
        let e = ap standing_step whole ∙ stays chip rom signals start s in
        record {
          run = sym (breaks_off chip rom signals budget none (omega arith) start fine in_standby _ e (λ w. let z : ◌≡◌ {A = ℕ} 0 1 = cc in omega arith))
              ∙ ap (λ (k : ℕ). run_from chip rom signals k none start) l ∙ begins chip rom signals budget start small fine;
          step = λ w. e ∙ sym (step_advances chip rom signals start fine);
        }

    pub begun : waits chip rom signals start ≡ false → Going chip rom signals budget start none start
    begun a = record {
      some = omega arith;
      few = omega arith;
      fine = fine;
      awake = a;
      rest = (let e : budget - 0 ≡ budget = omega arith in rw e (begins chip rom signals budget start small fine));
      first = λ e. refl;
      one = λ e. absurd (omega arith);
    }

module _ (chip : Chip) (rom : List ℕ) (signals : Signals) (budget : ℕ) (start : Machine) (count : Count) (m : Machine)
    (g : Going chip rom signals budget start count m) where
  pub used : budget ≤ count.steps → Ends chip rom signals budget start count done m
  used h = record {
    run = sym (used_up chip rom signals budget count m h) ∙ g.rest;
    step = λ e. g.one (omega (arith, g.some));
  }

  module _ (more : count.steps < budget) where
    -- with one step more of so many cycles
    abbrev with_one : ℕ → Count
    with_one cycles = plus count (cost_of cycles done)

    first : (s : Step) → s ≡ advance_of chip rom signals m → count.steps ≡ 0 → s ≡ step_of chip rom signals start
    first s e z = e ∙ sym (step_advances chip rom signals m g.fine) ∙ ap (step_of chip rom signals) (g.first z)

    pub stood : (cycles : ℕ) → cycles ≡ next_cycles rom m → (after : Machine) → completed_step after ≡ advance_of chip rom signals m → is_standing after ≡ true
        → Ends chip rom signals budget start (with_one cycles) done after
    stood cycles c after e b = rw c record {
      run = sym (stands chip rom signals budget count more m g.fine after e b) ∙ g.rest;
      step = λ w. first (completed_step after) e (omega arith);
    }

    pub refuses : (n : ℕ) (after : Machine) → refused_step n after ≡ advance_of chip rom signals m
        → Ends chip rom signals budget start count (refused n) after
    refuses n after e = record {
      run = sym (breaks_off chip rom signals budget count more m g.fine (refused n) after e (λ w. let z : ◌≡◌ {A = ℕ} 0 1 = cc in omega arith)) ∙ g.rest;
      step = λ w. first (refused_step n after) e (omega arith);
    }

    pub going : (levels : chip.levels ≤ places) → ArFits chip
        → (cycles : ℕ) → cycles ≡ next_cycles rom m → (after : Machine) → completed_step after ≡ advance_of chip rom signals m → is_standing after ≡ false
        → Going chip rom signals budget start (with_one cycles) after
    going levels fits cycles c after e b =
        let p = all_parts chip rom m signals g.fine in
        let r = subst (λ (x : Machine). machine_in_range chip x ≡ true) (sym (ap (λ (x : Step). x.machine) e)) (advances chip levels fits rom signals m p.0) in
        rw c record {
          some = omega arith;
          few = omega (arith, g.few, cycles_few (get_or rom m.control.pc 0) m.control.skip);
          fine = all_of chip rom signals after r p.1.0 p.1.1;
          awake = rw b;
          rest = sym (goes_on chip rom signals budget count more m g.fine after e b) ∙ g.rest;
          first = λ z. absurd (omega arith);
          one = λ z. first (completed_step after) e (omega arith);
        }
