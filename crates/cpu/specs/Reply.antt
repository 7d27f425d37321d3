-- What a step answers, in the numbers of document 01, "Refusal numbers", and the record after it.
-- Assumes nothing.
use Rattle.std.specs.Prelude.{ℕ}
use Rattle.machine.specs.declared.Machine.{Machine}

-- a step is completed, answers "standing", or is refused with a number
pub data Reply : Type 0 where
  done : Reply
  in_standby : Reply
  refused : ℕ → Reply

-- a step's answer and the record after it
pub record Step : Type 0 where
  pub reply : Reply
  pub machine : Machine

abbrev pub completed_step : Machine → Step
completed_step m = record { reply = done; machine = m }

abbrev pub standing_step : Machine → Step
standing_step m = record { reply = in_standby; machine = m }

abbrev pub refused_step : ℕ → Machine → Step
refused_step n m = record { reply = refused n; machine = m }

-- the refusal, 0 for none
abbrev pub refusal_of : Reply → ℕ
refusal_of done = 0
refusal_of in_standby = 0
refusal_of (refused n) = n
