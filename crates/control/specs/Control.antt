-- What a flow does to the PC, the stack and the marks: document 01, "Results" and refusals 5, 6 and 7.
-- Assumes nothing.
use Rattle.std.specs.Prelude.{ℕ, ◌+◌, ◌-◌, ◌^◌, Bool, false, cond, ◌==◌, nat_le, slice_index, slice_set}
use Rattle.laws.specs.Bit.{bit}
use Rattle.laws.specs.Wrap.{wrap_next}
use Rattle.memory.specs.Chip.{Chip}
use Rattle.machine.specs.declared.Control.{Control}
use Rattle.machine.specs.Parts.{HALT, STOP}
use Rattle.machine.specs.Refusals.{number_of}
use Rattle.control.specs.declared.Rest.{Rest}
use Rattle.control.specs.declared.Rest.TheVariants.{Halt, Stop}
use Rattle.control.specs.declared.ArOp.{ArOp}
use Rattle.control.specs.declared.ArOp.TheVariants as ar
use Rattle.control.specs.declared.Flow.{Flow}
use Rattle.control.specs.declared.Flow.TheVariants.{Onward, Skips, Branches, Calls, Returns, ReadsTable, StandsBy, ByAr, Refused}

-- a refusal, 0 for none, and the control after it
pub record Transfer : Type 0 where
  pub refusal : ℕ
  pub control : Control

abbrev pub goes : Control → Transfer
goes c = record { refusal = 0; control = c }

-- a refusal leaves the control as it came
abbrev pub refused_control : ℕ → Control → Transfer
refused_control n c = record { refusal = n; control = c }

abbrev pub jump_to : ℕ → Control → Control
jump_to to c = record { pc = to; stack = c.stack; levels = c.levels; skip = c.skip; standby = c.standby }

-- the skip mark
abbrev pub with_skip : Bool → Control → Control
with_skip skip c = record { pc = c.pc; stack = c.stack; levels = c.levels; skip = bit skip; standby = c.standby }

-- the standby mark
abbrev pub with_standby : ℕ → Control → Control
with_standby mark c = record { pc = c.pc; stack = c.stack; levels = c.levels; skip = c.skip; standby = mark }

-- the standby mark tells HALT and STOP apart (document 02, E4)
abbrev pub mark_of : Rest → ℕ
mark_of Halt = HALT
mark_of Stop = STOP

-- one level more, with an address on it
abbrev pub pushed : ℕ → Control → Control
pushed a c = record { pc = c.pc; stack = slice_set c.stack c.levels a; levels = c.levels + 1; skip = c.skip; standby = c.standby }

-- the address on the highest open level; with none open the one on the lowest place, and past the last place 0
abbrev pub top_of : Control → ℕ
top_of c = slice_index c.stack (c.levels - 1)

-- one level less; "places above the open ones are 0"
abbrev pub popped : Control → Control
popped c = record { pc = c.pc; stack = slice_set c.stack (c.levels - 1) 0; levels = c.levels - 1; skip = c.skip; standby = c.standby }

-- refusal 7: stack empty
abbrev pub unless_empty : Control → Control → Transfer
unless_empty c after = cond (c.levels == 0) (refused_control 7 c) (goes after)

-- RET goes back, and RETSK with the skip mark set
unfoldable pub return_of : Bool → Control → Transfer
return_of skip c = unless_empty c (with_skip skip (jump_to (top_of c) (popped c)))

module _ (chip : Chip) where
  -- "Next" is PC + 1, 0 after the last
  abbrev pub next_of : ℕ → ℕ
  next_of pc = wrap_next chip.pc_bits pc

  abbrev pub onwards : Control → Control
  onwards c = jump_to (next_of c.pc) c

  -- refusal 6: stack full
  abbrev pub unless_full : Control → Control → Transfer
  unless_full c after = cond (nat_le chip.levels c.levels) (refused_control 6 c) (goes after)

  -- refusal 5: BR or CALL address of 1,024 or more, tried before the stack
  abbrev pub in_reach : ℕ → Control → Transfer → Transfer
  in_reach to c after = cond (nat_le (2 ^ chip.pc_bits) to) (refused_control 5 c) after

  -- a skip sets the mark
  unfoldable pub onward_of : Bool → Control → Transfer
  onward_of skip c = goes (with_skip skip (onwards c))

  -- BR
  unfoldable pub branch_of : ℕ → Control → Transfer
  branch_of to c = in_reach to c (goes (jump_to to c))

  -- CALL and CALL @AR stack the next PC
  unfoldable pub call_of : ℕ → Control → Transfer
  call_of to c = unless_full c (jump_to to (pushed (next_of c.pc) c))

  -- MOVT needs one free level, given back at once
  unfoldable pub table_of : Control → Transfer
  table_of c = unless_full c (onwards c)

  -- "HALT and STOP move PC on and set standing", each its own mark
  unfoldable pub standby_of : ℕ → Control → Transfer
  standby_of mark c = goes (with_standby mark (onwards c))

  -- PUSH AR
  unfoldable pub push_of : ℕ → Control → Transfer
  push_of ar c = unless_full c (onwards (pushed ar c))

  -- POP AR
  unfoldable pub pop_of : Control → Transfer
  pop_of c = unless_empty c (onwards (popped c))

  -- what goes by AR
  abbrev pub by_ar_of : ArOp → ℕ → Control → Transfer
  by_ar_of ar.Br to c = goes (jump_to to c)
  by_ar_of ar.Call to c = call_of to c
  by_ar_of ar.Push to c = push_of to c
  by_ar_of ar.Pop to c = pop_of c

  -- Of the data only whether a skip's condition holds, and AR. In a step neither mark is set when an instruction runs.
  unfoldable pub control_of : Flow → Bool → ℕ → Control → Transfer
  control_of Onward holds ar c = onward_of false c
  control_of Skips holds ar c = onward_of holds c
  control_of (Branches to) holds ar c = branch_of to c
  control_of (Calls to) holds ar c = in_reach to c (call_of to c)
  control_of (Returns skip) holds ar c = return_of skip c
  control_of ReadsTable holds ar c = table_of c
  control_of (StandsBy rest) holds ar c = standby_of (mark_of rest) c
  control_of (ByAr op) holds ar c = by_ar_of op ar c
  control_of (Refused q) holds ar c = refused_control (number_of q) c
