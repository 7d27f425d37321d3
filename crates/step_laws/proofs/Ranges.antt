-- A record in range stays in range under every step and every run.
-- Assumes nothing.
use mathlib.Core.Path.{◌≡◌}
use mathlib.Core.Bool.{true, ◌&&◌}
use mathlib.Core.List.{List}
use Prim.Native.Nat.{ℕ, zero, suc}
use Rattle.laws.proofs.Booleans.{either}
use Rattle.memory.specs.Chip.{Chip, chip_of}
use Rattle.memory.specs.declared.Model.{Model}
use Rattle.memory.proofs.Numbers.{levels_fit}
use Rattle.machine.specs.Ranges.{machine_in_range, all_in_range, budget_in_range}
use Rattle.machine.specs.Signals.{Signals}
use Rattle.machine.specs.declared.Machine.{Machine}
use Rattle.cpu.specs.Cost.{none, plus, step_cost}
use Rattle.cpu.specs.Reply.{Reply, done, in_standby, refused}
use Rattle.cpu.specs.Run.{Run, after_step, ended, run_from, run_of}
use Rattle.cpu.specs.Step.{is_standing, step_of}
use Rattle.cpu.specs.declared.Count.{Count}
use Rattle.cpu.proofs.ArFits.{ar_fits}
use Rattle.cpu.proofs.Ranged.{steps}
use Rattle.step_laws.specs.RangeLaws.{RangeLaws}

-- what every step keeps every run keeps
module _ (chip : Chip) (rom : List ℕ) (signals : Signals) (P : Machine → Type 0)
    (each : (m : Machine) → P m → P (step_of chip rom signals m).machine) where
  abbrev Q : Run → Type 0
  Q r = P r.machine

  turned : (n : Count) (m : Machine) (r : Reply) (rest : Run) → P m → Q rest → Q (after_step n m r rest)
  turned n m done rest p q = either Q (is_standing m) (ended n 0 m) rest p q
  turned n m in_standby rest p q = p
  turned n m (refused k) rest p q = p

  from : (left : ℕ) (n : Count) (m : Machine) → P m → Q (run_from chip rom signals left n m)
  unfolding run_from
  from zero n m p = p
  from (suc left) n m p =
      let s = step_of chip rom signals m in
      let count = plus n (step_cost chip rom signals m) in
      turned count s.machine s.reply (run_from chip rom signals left count s.machine) (each m p) (from left count s.machine (each m p))

  pub runs : (budget : ℕ) (m : Machine) → P m → Q (run_of chip rom signals budget m)
  unfolding run_of
  runs budget m p =
      either Q (all_in_range chip rom m signals && budget_in_range budget) (run_from chip rom signals budget none m) (ended none 1 m) (from budget none m p) p

pub range_laws : (model : Model) → RangeLaws (chip_of model)
range_laws model =
    let step = steps (chip_of model) (levels_fit model) (ar_fits model) in
    record {
      step = step;
      run = λ rom signals. runs (chip_of model) rom signals (λ (m : Machine). machine_in_range (chip_of model) m ≡ true) (step rom signals);
    }
