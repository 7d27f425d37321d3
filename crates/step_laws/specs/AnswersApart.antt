-- The numbers that stand for the answers of the step and the run tell them apart. Proved in proofs/AnswersApart.antt.
-- Assumes nothing.
use Rattle.std.specs.Prelude.{◌≡◌, Result}
use Rattle.machine.specs.declared.Refusal.{Refusal}
use Rattle.cpu.specs.Answers.{reply_of, reply_number, end_of}
use Rattle.cpu.specs.declared.Completion.{Completion}

-- what stands for each answer loses nothing
pub record AnswersApart : Type 0 where
  pub replies : (a b : Result Completion Refusal) → reply_number (reply_of a) ≡ reply_number (reply_of b) → a ≡ b
  pub ends : (a b : Result (Unit {0}) Refusal) → end_of a ≡ end_of b → a ≡ b
