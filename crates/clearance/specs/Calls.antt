-- The calls that demand 3 speaks of, and what is counted while they run: document 01, "What the contracts owe", its last
-- paragraph.
-- Assumes nothing.
use Rattle.std.specs.Prelude.{Bool, ◌&&◌, cond, List, ℕ, zero, suc, ◌+◌}
use Rattle.memory.specs.Chip.{Chip}
use Rattle.machine.specs.Parts.{is_marked}
use Rattle.machine.specs.Ranges.{signals_in_range, budget_in_range}
use Rattle.machine.specs.Signals.{Signals}
use Rattle.machine.specs.declared.Machine.{Machine}
use Rattle.control.specs.declared.Flow.{Flow}
use Rattle.control.specs.declared.Flow.TheVariants.{Onward, Skips, Branches, Calls, Returns, ReadsTable, StandsBy, ByAr, Refused}
use Rattle.cpu.specs.Reply.{Reply, done, in_standby, refused, refusal_of}
use Rattle.cpu.specs.Run.{run_of}
use Rattle.cpu.specs.Step.{step_of}
use Rattle.clearance.specs.Rules.{flow_at}

-- "in each form that they have": the record by value, or lent, whole or its cells alone, and left changed
pub data CallForm : Type 0 where
  by_value : CallForm
  in_place : CallForm

-- "the single step and the counted run", each with its own inputs, the pulse among them (document 02, E4), and budget
pub data HostCall : Type 0 where
  step : CallForm → Signals → HostCall
  run : CallForm → Signals → ℕ → HostCall

-- the call's own inputs and budget are in range
abbrev pub own_in_range : HostCall → Bool
own_in_range (step form i) = signals_in_range i
own_in_range (run form i budget) = signals_in_range i && budget_in_range budget

-- CALLs, and RETs and RETSKs, among the words that ran
pub record Tally : Type 0 where
  pub calls : ℕ
  pub returns : ℕ

abbrev pub no_calls : Tally
no_calls = record { calls = 0; returns = 0 }

-- a word that ran
abbrev pub counted : Flow → Tally → Tally
counted Onward t = t
counted Skips t = t
counted (Branches to) t = t
counted (Calls to) t = record { calls = t.calls + 1; returns = t.returns }
counted (Returns skip) t = record { calls = t.calls; returns = t.returns + 1 }
counted ReadsTable t = t
counted (StandsBy rest) t = t
counted (ByAr op) t = t
counted (Refused q) t = t

-- a completed step counts its word, unless that was skipped; a step that answers "standing" or is refused counts nothing
abbrev pub after_reply : Reply → Bool → Flow → Tally → Tally
after_reply done skipped f t = cond skipped t (counted f t)
after_reply in_standby skipped f t = t
after_reply (refused n) skipped f t = t

module _ (chip : Chip) (rom : List ℕ) where
  -- the tally after a step
  abbrev pub step_tally : Signals → Machine → Tally → Tally
  step_tally i m t = after_reply (step_of chip rom i m).reply (is_marked m.control.skip) (flow_at rom m.control.pc) t

  -- what a call answers, its refusal or 0, and the record that it returns or leaves; the same in each form
  abbrev pub refusal_at : HostCall → Machine → ℕ
  refusal_at (step form i) m = refusal_of (step_of chip rom i m).reply
  refusal_at (run form i budget) m = (run_of chip rom i budget m).refusal

  abbrev pub left_by : HostCall → Machine → Machine
  left_by (step form i) m = (step_of chip rom i m).machine
  left_by (run form i budget) m = (run_of chip rom i budget m).machine

  -- the tally after so many completed steps of a run: each counts on the record that a run of the steps before it leaves
  unfoldable pub run_tally : Signals → ℕ → Machine → Tally → Tally
  run_tally i zero m t = t
  run_tally i (suc k) m t = step_tally i (run_of chip rom i k m).machine (run_tally i k m t)

  -- "Each completed step of a run counts, in a refused run too"
  abbrev pub tally_after : HostCall → Machine → Tally → Tally
  tally_after (step form i) m t = step_tally i m t
  tally_after (run form i budget) m t = run_tally i (run_of chip rom i budget m).count.steps m t
