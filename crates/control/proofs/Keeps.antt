-- A refused change of control leaves the control as it came.
-- Assumes nothing.
use Rattle.std.proofs.Common.{◌≡◌, ℕ, ◌^◌, Bool, false, eqb, leb, sym, refl}
use mathlib.Core.Bool.{false≢true}
use Rattle.laws.proofs.Booleans.{either}
use Rattle.memory.specs.Chip.{Chip}
use Rattle.control.specs.Control.{Transfer, goes, refused_control, jump_to, with_skip, pushed, popped, top_of, next_of, onwards, unless_full, unless_empty, in_reach, by_ar_of, control_of, branch_of, call_of, return_of, push_of, pop_of, table_of, standby_of, onward_of}
use Rattle.control.specs.declared.ArOp.{ArOp}
use Rattle.control.specs.declared.ArOp.TheVariants as code
use Rattle.control.specs.declared.Flow.{Flow}
use Rattle.control.specs.declared.Flow.TheVariants.{Onward, Skips, Branches, Calls, Returns, ReadsTable, StandsBy, ByAr, Refused}
use Rattle.machine.specs.Refusals.{number_of}
use Rattle.machine.specs.declared.Control.{Control}

abbrev pub Keeps : Control → Transfer → Type 0
Keeps c s = eqb s.refusal 0 ≡ false → s.control ≡ c

gone : (c after : Control) → Keeps c (goes after)
gone c after e = absurd (false≢true (sym e))

kept : (n : ℕ) (c : Control) → Keeps c (refused_control n c)
kept n c e = refl

module _ (chip : Chip) (c : Control) where
  full : (after : Control) → Keeps c (unless_full chip c after)
  full after = either (Keeps c) (leb chip.levels c.levels) (refused_control 6 c) (goes after) (kept 6 c) (gone c after)

  empty : (after : Control) → Keeps c (unless_empty c after)
  empty after = either (Keeps c) (eqb c.levels 0) (refused_control 7 c) (goes after) (kept 7 c) (gone c after)

  reached : (to : ℕ) (s : Transfer) → Keeps c s → Keeps c (in_reach chip to c s)
  reached to s k = either (Keeps c) (leb (2 ^ chip.pc_bits) to) (refused_control 5 c) s (kept 5 c) k

  by_ar : (op : ArOp) (ar : ℕ) → Keeps c (by_ar_of chip op ar c)
  unfolding call_of push_of pop_of
  by_ar code.Br ar = gone c _
  by_ar code.Call ar = full (jump_to ar (pushed (next_of chip c.pc) c))
  by_ar code.Push ar = full (onwards chip (pushed ar c))
  by_ar code.Pop ar = empty (onwards chip (popped c))

  pub keeps : (f : Flow) (holds : Bool) (ar : ℕ) → Keeps c (control_of chip f holds ar c)
  unfolding control_of branch_of call_of return_of table_of standby_of onward_of
  keeps Onward holds ar = gone c _
  keeps Skips holds ar = gone c _
  keeps (Branches to) holds ar = reached to (goes (jump_to to c)) (gone c (jump_to to c))
  keeps (Calls to) holds ar = reached to (call_of chip to c) (full (jump_to to (pushed (next_of chip c.pc) c)))
  keeps (Returns skip) holds ar = empty (with_skip skip (jump_to (top_of c) (popped c)))
  keeps ReadsTable holds ar = full (onwards chip c)
  keeps (StandsBy rest) holds ar = gone c _
  keeps (ByAr op) holds ar = by_ar op ar
  keeps (Refused q) holds ar = kept (number_of q) c
