-- What the entries on a lent record answer and leave: the definitions of the step and the run, with document 01's numbers.
-- Assumes nothing.
use Rattle.std.specs.Prelude.{ℕ}
use Rattle.machine.specs.declared.Machine.{Machine}
use Rattle.cpu.specs.Answers.{reply_number}
use Rattle.cpu.specs.Reply.{Step}
use Rattle.cpu.specs.Run.{Run}
use Rattle.pollwezen.specs.declared.RunReply.{RunReply}

-- what an entry leaves in the lent record, and what it answers
pub record Lent (A : Type 0) : Type 0 where
  pub machine : Machine
  pub answer : A

abbrev pub lent_step : Machine → ℕ → Lent ℕ
lent_step m n = record { machine = m; answer = n }

abbrev pub lent_step_of : Step → Lent ℕ
lent_step_of s = lent_step s.machine (reply_number s.reply)

abbrev pub lent_run : Machine → RunReply → Lent RunReply
lent_run m r = record { machine = m; answer = r }

-- a run's steps with their cycles, and its refusal or 0
abbrev pub lent_run_of : Run → Lent RunReply
lent_run_of r = lent_run r.machine (record { count = r.count; number = r.refusal })
