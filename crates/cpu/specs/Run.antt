-- A counted run: document 01, "A run takes one input record and a budget of 0 to 65,535 steps".
-- Assumes nothing.
use Rattle.std.specs.Prelude.{◌&&◌, cond, List, ℕ, zero, suc}
use Rattle.memory.specs.Chip.{Chip}
use Rattle.machine.specs.Ranges.{all_in_range, budget_in_range}
use Rattle.machine.specs.Signals.{Signals}
use Rattle.machine.specs.declared.Machine.{Machine}
use Rattle.cpu.specs.Cost.{none, plus, step_cost}
use Rattle.cpu.specs.Reply.{Reply, done, in_standby, refused, refusal_of}
use Rattle.cpu.specs.Step.{is_standing, step_of}
use Rattle.cpu.specs.declared.Count.{Count}

-- the steps that a run completed with their cycles, its refusal or 0, and the record after it
pub record Run : Type 0 where
  pub count : Count
  pub refusal : ℕ
  pub machine : Machine

abbrev pub ended : Count → ℕ → Machine → Run
ended count refusal m = record { count = count; refusal = refusal; machine = m }

-- a run ends at a refusal, and after a step that leaves the machine standing; else it goes on. A step that answers "standing" ends a
-- run that begins so: HALT's moves the timer, and no count
abbrev pub after_step : Count → Machine → Reply → Run → Run
after_step count m done rest = cond (is_standing m) (ended count 0 m) rest
after_step count m in_standby rest = ended count 0 m
after_step count m (refused n) rest = ended count n m

module _ (chip : Chip) (rom : List ℕ) (signals : Signals) where
  -- a step told as a run tells it
  abbrev pub step_run : Machine → Run
  step_run m = let s = step_of chip rom signals m in ended (step_cost chip rom signals m) (refusal_of s.reply) s.machine

  -- so many steps at most, each on the machine that the step before returned; the budget counts steps, and those completed so far
  -- are counted with their cycles
  unfoldable pub run_from : ℕ → Count → Machine → Run
  run_from zero count m = ended count 0 m
  run_from (suc left) count m =
      let s = step_of chip rom signals m in
      let sum = plus count (step_cost chip rom signals m) in
      let rest = run_from left sum s.machine in
      after_step sum s.machine s.reply rest

  -- refusal 1 is tried before anything, also at budget 0
  unfoldable pub run_of : ℕ → Machine → Run
  run_of budget m = cond (all_in_range chip rom m signals && budget_in_range budget) (run_from budget none m) (ended none 1 m)
