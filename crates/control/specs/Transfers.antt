-- What the control functions answer, in the definitions' terms.
-- Assumes nothing.
use Rattle.std.specs.Prelude.{ℕ, List, Result, Ok, Err}
use Rattle.machine.specs.Refusals.{number_of}
use Rattle.machine.specs.declared.Control.{Control}
use Rattle.machine.specs.declared.Refusal.{Refusal}
use Rattle.control.specs.Control.{Transfer, goes, refused_control}
use Rattle.control.specs.declared.Regs.{Regs}

-- the control whose stack stands apart from it, as the code keeps it while it steps
abbrev pub with_stack : List ℕ → Regs → Control
with_stack stack r = record { pc = r.pc; stack = stack; levels = r.levels; skip = r.skip; standby = r.standby }

-- the stack after, the registers before, and the answer
abbrev pub transfer_of : List ℕ → Regs → Result Regs Refusal → Transfer
transfer_of stack before (Ok r) = goes (with_stack stack r)
transfer_of stack before (Err q) = refused_control (number_of q) (with_stack stack before)
