-- Where an operand's cell is missing, nothing else refuses the instruction: it would go on to the next word.
-- Assumes nothing.
use mathlib.Core.Path.{◌≡◌, ◌∙◌, refl, sym}
use mathlib.Core.Bool.{Bool, true, false, ◌||◌, cond, or-false, false≢true}
use mathlib.Core.List.{List}
use Prim.Native.Nat.{ℕ}
use lib.Dec.{eqb}
use Rattle.isa.specs.declared.Instruction.{Instruction}
use Rattle.isa.specs.declared.Instruction.TheVariants.{AluRegister, AluImmediate, Skip, Rorc, Ld, St, MovToIndirect, MovFromIndirect, MovImmediate, Peek, Poke, Get, Put, Br, Call, Stop, Halt, Fixed}
use Rattle.memory.specs.Chip.{Chip, is_missing, is_whole}
use Rattle.memory.proofs.Numbers.{none_lacking}
use Rattle.memory.specs.Registers.{ar_of}
use Rattle.machine.specs.Parts.{cells_of}
use Rattle.machine.specs.Signals.{Signals}
use Rattle.machine.specs.declared.Machine.{Machine}
use Rattle.control.specs.Control.{control_of, onward_of}
use Rattle.control.specs.Flow.{flow_of}
use Rattle.peripherals.specs.Registers.{in_file, is_data}
use Rattle.operations.specs.Operands.{address_in, addresses_of, lacks_at, no_cell}
use Rattle.cpu.specs.Execute.{execute_of, lacks_of, past_table, transfer_by}
use Rattle.cpu.specs.Reply.{refused_step}

module _ (chip : Chip) (rom : List ℕ) (signals : Signals) (m : Machine) where
  -- control goes on, and there is no table to miss
  record Free (i : Instruction) : Type 0 where
    control : eqb (transfer_by chip rom signals i m).refusal 0 ≡ true
    table : past_table rom (ar_of (cells_of m)) (flow_of i) ≡ false

  -- a missing cell of the register file is one of data memory
  there : (rf : ℕ) (b : Bool) → is_data rf ≡ b → is_missing chip (cond b rf no_cell) ≡ true → in_file rf ≡ true
  unfolding in_file
  there rf true e l = rw e
  there rf false e l = absurd (false≢true l)

  in_file_lem : (rf : ℕ) → (is_missing chip (cond (is_data rf) rf no_cell) || false) ≡ true → in_file rf ≡ true
  in_file_lem rf l = there rf (is_data rf) refl (sym (or-false (is_missing chip (cond (is_data rf) rf no_cell))) ∙ l)

  free : (i : Instruction) → lacks_of chip rom signals i m ≡ true → Free i
  unfolding lacks_of lacks_at addresses_of address_in transfer_by control_of onward_of past_table
  free (AluRegister op r a) l = record { control = refl; table = refl }
  free (AluImmediate op a n4) l = record { control = refl; table = refl }
  free (Skip op a n4) l = record { control = refl; table = refl }
  free (Rorc r) l = record { control = refl; table = refl }
  free (Ld r a) l = record { control = refl; table = refl }
  free (St a r) l = record { control = refl; table = refl }
  free (MovToIndirect r a) l = record { control = refl; table = refl }
  free (MovFromIndirect a r) l = record { control = refl; table = refl }
  free (MovImmediate a n4) l = record { control = refl; table = refl }
  free (Peek rf) l = record { control = rw (in_file_lem rf l); table = rw (in_file_lem rf l) }
  free (Poke rf) l = record { control = rw (in_file_lem rf l); table = rw (in_file_lem rf l) }
  free (Get at) l = absurd (false≢true l)
  free (Put at) l = absurd (false≢true l)
  free (Br addr) l = absurd (false≢true l)
  free (Call addr) l = absurd (false≢true l)
  free (Stop s) l = absurd (false≢true l)
  free (Halt h) l = absurd (false≢true l)
  free (Fixed op) l = absurd (false≢true l)

  pub lacks : (i : Instruction) → lacks_of chip rom signals i m ≡ true → refused_step 31 m ≡ execute_of chip rom signals i m
  unfolding execute_of
  lacks i l = let f = free i l in rw (f.control, f.table, l)

  -- a chip that has every cell lacks none
  pub whole_lacks : (i : Instruction) → is_whole chip ≡ true → lacks_of chip rom signals i m ≡ false
  unfolding lacks_of lacks_at
  whole_lacks i w = rw (none_lacking chip w _, none_lacking chip w _, none_lacking chip w _)
