-- What a step and a run answer, in the numbers of document 01, "Refusal numbers"; what is no refusal has a number here.
-- Assumes nothing.
use Rattle.std.specs.Prelude.{List, ℕ, Result, Ok, Err}
use Rattle.machine.specs.Parts.{machine_of}
use Rattle.machine.specs.Refusals.{number_of}
use Rattle.machine.specs.declared.Refusal.{Refusal}
use Rattle.cpu.specs.Reply.{Reply, done, in_standby, refused, Step}
use Rattle.cpu.specs.Run.{Run}
use Rattle.cpu.specs.declared.Completion.{Completion}
use Rattle.cpu.specs.declared.Completion.TheVariants.{Done, Standby}
use Rattle.cpu.specs.declared.Reached.{Reached}
use Rattle.cpu.specs.declared.Stepped.{Stepped}
use Rattle.cpu.specs.declared.Ran.{Ran}

abbrev pub reply_of : Result Completion Refusal → Reply
reply_of (Ok Done) = done
reply_of (Ok Standby) = in_standby
reply_of (Err r) = refused (number_of r)

-- a completed step is 0 and one that answers "standing" 255, which no refusal is
abbrev pub reply_number : Reply → ℕ
reply_number done = 0
reply_number in_standby = 255
reply_number (refused n) = n

abbrev pub step_of_stepped : Stepped → Step
step_of_stepped s = record { reply = reply_of s.answer; machine = s.machine }

-- the same where the cells stand apart
abbrev pub reached_step : List ℕ → Reached → Step
reached_step cells r = record { reply = reply_of r.answer; machine = machine_of cells r.peripherals r.control }

-- the refusal that a run ended with, 0 for none
abbrev pub end_of : Result (Unit {0}) Refusal → ℕ
end_of (Ok u) = 0
end_of (Err r) = number_of r

abbrev pub run_of_ran : Ran → Run
run_of_ran r = record { count = r.count; refusal = end_of r.end; machine = r.machine }
