-- The models by their numbers in C, and what the entries answer for each. A number that is no model's is refused with 1, ours, and
-- what is lent stays as it came.
-- Assumes nothing.
use Rattle.std.specs.Prelude.{cond, List, ℕ, eqb, Option, Some, None}
use Rattle.memory.specs.Chip.{chip_of}
use Rattle.memory.specs.declared.Model.{Model}
use Rattle.memory.specs.declared.Model.TheVariants.{Upd17132, Upd17120}
use Rattle.machine.specs.Parts.{reset_machine}
use Rattle.machine.specs.Signals.{Signals}
use Rattle.machine.specs.declared.Machine.{Machine}
use Rattle.cpu.specs.Cost.{none}
use Rattle.cpu.specs.Reply.{Step, completed_step, refused_step}
use Rattle.cpu.specs.Run.{Run, ended, run_of}
use Rattle.cpu.specs.Step.{step_of}
use Rattle.clearance.specs.Safe.{Safe}
use Rattle.verifier.specs.Verdict.{CheckAnswer, refused, verify_of, Clear}

-- 0 is the uPD17132, 1 the uPD17120
abbrev pub model_of : ℕ → Option Model
model_of n = cond (eqb n 0) (Some Upd17132) (cond (eqb n 1) (Some Upd17120) None)

-- reset is the same on both
abbrev pub reset_on : Option Model → Machine → Step
reset_on (Some model) m = completed_step reset_machine
reset_on None m = refused_step 1 m

abbrev pub step_on : Option Model → List ℕ → Signals → Machine → Step
step_on (Some model) rom signals m = step_of (chip_of model) rom signals m
step_on None rom signals m = refused_step 1 m

abbrev pub run_on : Option Model → List ℕ → Signals → ℕ → Machine → Run
run_on (Some model) rom signals budget m = run_of (chip_of model) rom signals budget m
run_on None rom signals budget m = ended none 1 m

abbrev pub verify_on : Option Model → List ℕ → List ℕ → CheckAnswer
verify_on (Some model) rom sheet = verify_of (chip_of model) rom sheet
verify_on None rom sheet = refused 1

-- what a pass says: on no model there is none
abbrev pub ClearOn : Option Model → List ℕ → List ℕ → Type 0
ClearOn (Some model) rom sheet = Clear (chip_of model) rom sheet
ClearOn None rom sheet = ⊥

abbrev pub SafeOn : Option Model → List ℕ → List ℕ → Type 0
SafeOn (Some model) rom sheet = Safe (chip_of model) rom sheet
SafeOn None rom sheet = ⊥
