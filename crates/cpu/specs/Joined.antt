-- The record that its parts make, as the code keeps them while it steps: the cells, the stack and the control registers where they
-- are, the rest in two small structs. What the functions over these parts answer, in the definitions' terms.
-- Assumes nothing.
use Rattle.std.specs.Prelude.{◌≡◌, cond, List, ℕ, leb, get_or, length, Option, None, Some, Result, Ok, Err}
use Rattle.machine.specs.Parts.{machine_of}
use Rattle.machine.specs.Refusals.{number_of}
use Rattle.machine.specs.Signals.{Signals}
use Rattle.machine.specs.declared.Machine.{Machine}
use Rattle.machine.specs.declared.Refusal.{Refusal}
use Rattle.peripherals.specs.Pace.{Quiet}
use Rattle.peripherals.specs.Parts.{with_timer}
use Rattle.peripherals.specs.declared.Peripherals.{Peripherals}
use Rattle.peripherals.specs.declared.Timer.{Timer}
use Rattle.control.specs.Transfers.{with_stack}
use Rattle.control.specs.declared.Regs.{Regs}
use Rattle.cpu.specs.declared.Advanced.{Advanced}
use Rattle.cpu.specs.Step.{ticked_by}
use Rattle.cpu.specs.Reply.{Step, completed_step, refused_step}

-- the record put together
abbrev pub whole_of : List ℕ → List ℕ → Peripherals → Regs → Machine
whole_of cells stack p r = machine_of cells p (with_stack stack r)

-- the cells and the stack after, the peripherals after settings and before them, the control before, and the answer
abbrev pub executed_of : List ℕ → List ℕ → Peripherals → Peripherals → Regs → Result Regs Refusal → Step
executed_of cells stack set p before (Ok r) = completed_step (whole_of cells stack set r)
executed_of cells stack set p before (Err q) = refused_step (number_of q) (whole_of cells stack p before)

-- the pulse bit, the cells, the stack and the control registers after, the timer and the control before, and the answer. The timer's
-- cycles, the last phase, are still to come
abbrev pub advanced_of : ℕ → List ℕ → List ℕ → List ℕ → Timer → Regs → Result Advanced Refusal → Step
advanced_of pulse cells stack registers timer before (Ok a) =
    completed_step (ticked_by a.cycles pulse (whole_of cells stack (with_timer registers a.timer) a.regs))
advanced_of pulse cells stack registers timer before (Err q) =
    refused_step (number_of q) (whole_of cells stack (with_timer registers timer) before)

-- a completed step tells its cycles
abbrev pub TakesCycles : ℕ → Result Advanced Refusal → Type 0
TakesCycles n (Ok a) = a.cycles ≡ n
TakesCycles n (Err q) = Unit

-- and leaves a timer that is as quiet as it says
abbrev pub StaysQuiet : List ℕ → ℕ → Result Advanced Refusal → Type 0
StaysQuiet registers pulse (Ok a) = Quiet (with_timer registers a.timer) pulse a.timer.quiet
StaysQuiet registers pulse (Err q) = Unit

-- what a host gives, put together
abbrev pub signals_at : List ℕ → List ℕ → ℕ → ℕ → Signals
signals_at pins directions release pulse =
    record { input = record { pins = pins; directions = directions; release = release }; pulse = pulse }

-- the word at an address, or none past the ROM
abbrev pub fetched_of : List ℕ → ℕ → Option ℕ
fetched_of rom pc = cond (leb (length rom) pc) None (Some (get_or rom pc 0))
