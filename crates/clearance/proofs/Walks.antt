-- A run by its steps: up to the steps that it completes, a run of so many is so many steps one after the other.
-- Assumes nothing.
use mathlib.Core.Path.{◌≡◌, ◌∙◌, ap, refl, sym}
use mathlib.Core.Bool.{Bool, true, false, not, cond, false≢true}
use mathlib.Core.List.{List}
use Prim.Native.Nat.{ℕ, zero, suc, ◌+◌, ◌≤◌}
use native.Mathlib.Omega.{arith}
use Rattle.memory.specs.Chip.{Chip}
use Rattle.machine.specs.Signals.{Signals}
use Rattle.machine.specs.declared.Machine.{Machine}
use Rattle.cpu.specs.Cost.{cost_of, plus, step_cost}
use Rattle.cpu.specs.Cycles.{next_cycles}
use Rattle.cpu.specs.Reply.{Reply, done, in_standby, refused, refusal_of, Step}
use Rattle.cpu.specs.Run.{Run, after_step, ended, run_from}
use Rattle.cpu.specs.Step.{is_standing, step_of}
use Rattle.cpu.specs.declared.Count.{Count}
use Rattle.cpu.proofs.Costs.{cost_below}
use Rattle.clearance.specs.Calls.{Tally, step_tally}

-- a run goes on after a completed step that does not leave the machine standing
abbrev goes_on_after : Reply → Bool → Bool
goes_on_after done stands = not stands
goes_on_after in_standby stands = false
goes_on_after (refused n) stands = false

turn : (r : Reply) (m : Machine) (count : Count) (rest : Run) → after_step count m r rest ≡ cond (goes_on_after r (is_standing m)) rest (ended count (refusal_of r) m)
turn done m count rest = either (is_standing m)
  where
    either : (b : Bool) → cond b (ended count 0 m) rest ≡ cond (not b) rest (ended count 0 m)
    either true = refl
    either false = refl
turn in_standby m count rest = refl
turn (refused n) m count rest = refl

cost_of_going : (r : Reply) (stands : Bool) (cycles : ℕ) → goes_on_after r stands ≡ true → cost_of cycles r ≡ cost_of cycles done
cost_of_going done stands cycles e = refl
cost_of_going in_standby stands cycles e = absurd (false≢true e)
cost_of_going (refused n) stands cycles e = absurd (false≢true e)

module _ (chip : Chip) (rom : List ℕ) (i : Signals) where
  abbrev S : Machine → Step
  S m = step_of chip rom i m

  abbrev pub on_from : Machine → Bool
  on_from m = goes_on_after (S m).reply (is_standing (S m).machine)

  pub nothing_left : (c : Count) (m : Machine) → run_from chip rom i 0 c m ≡ ended c 0 m
  unfolding run_from
  nothing_left c m = refl

  -- with a completed step more
  abbrev pub more : Machine → Count → Count
  more m c = plus c (cost_of (next_cycles rom m) done)

  pub goes_on : (left : ℕ) (c : Count) (m : Machine) → on_from m ≡ true → run_from chip rom i (suc left) c m ≡ run_from chip rom i left (more m c) (S m).machine
  unfolding run_from
  goes_on left c m e = turn (S m).reply (S m).machine _ _ ∙ rw (e, cost_of_going (S m).reply _ (next_cycles rom m) e)

  pub stops : (left : ℕ) (c : Count) (m : Machine) → on_from m ≡ false
      → run_from chip rom i (suc left) c m ≡ ended (plus c (step_cost chip rom i m)) (refusal_of (S m).reply) (S m).machine
  unfolding run_from
  stops left c m e = turn (S m).reply (S m).machine _ _ ∙ rw e

  -- the record and the tally after so many steps
  pub record Stage : Type 0 where
    pub machine : Machine
    pub tally : Tally

  abbrev pub one_step : Stage → Stage
  one_step s = record { machine = (S s.machine).machine; tally = step_tally chip rom i s.machine s.tally }

  abbrev pub walk : ℕ → Stage → Stage
  walk zero s = s
  walk (suc k) s = one_step (walk k s)

  pub first_step : (k : ℕ) (s : Stage) → walk (suc k) s ≡ walk k (one_step s)
  first_step zero s = refl
  first_step (suc k) s = ap one_step (first_step k s)

  -- a step counts for what it costs
  pub spent : (s : Stage) (r : Reply) (cycles : ℕ) → (S s.machine).reply ≡ r → (one_step s).tally ≡ (walk (cost_of cycles r).steps s).tally
  spent s done cycles e = refl
  spent s in_standby cycles e = rw e
  spent s (refused n) cycles e = rw e

  -- a run of no more steps than another completes is so many steps
  pub reaches : (left k : ℕ) (c : Count) (s : Stage) (b : Bool) → on_from s.machine ≡ b → c.steps + k ≤ (run_from chip rom i left c s.machine).count.steps
      → (run_from chip rom i k c s.machine).machine ≡ (walk k s).machine
  reaches left zero c s b e h = ap (λ (r : Run). r.machine) (nothing_left c s.machine)
  reaches zero (suc j) c s b e h = let q = ap (λ (r : Run). r.count.steps) (nothing_left c s.machine) in absurd (omega arith)
  reaches (suc l) (suc j) c s true e h =
      let q = ap (λ (r : Run). r.count.steps) (goes_on l c s.machine e) in
      ap (λ (r : Run). r.machine) (goes_on j c s.machine e)
      ∙ reaches l j (more s.machine c) (one_step s) (on_from (one_step s).machine) refl (omega arith)
      ∙ ap (λ (x : Stage). x.machine) (sym (first_step j s))
  reaches (suc l) (suc j) c s false e h =
      let q = ap (λ (r : Run). r.count.steps) (stops l c s.machine e) in
      let none : j ≡ 0 = omega (arith, cost_below (S s.machine).reply (next_cycles rom s.machine)) in
      ap (λ (r : Run). r.machine) (stops j c s.machine e) ∙ rw none
