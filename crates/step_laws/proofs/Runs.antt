-- Runs are made of steps, and of shorter runs.
-- Assumes nothing.
use mathlib.Core.Path.{◌≡◌, ◌∙◌, ap, refl, sym}
use mathlib.Core.Bool.{Bool, true, false, ◌&&◌}
use mathlib.Core.List.{List}
use mathlib.Core.Logic.{◌⊎◌, inl, inr, ⊎_elim}
use Prim.Native.Nat.{ℕ, ◌+◌, ◌-◌, ◌≤◌, ◌<◌}
use native.Mathlib.Nat.{zero-add}
use native.Mathlib.Omega.{arith}
use borrow.Author.Tests.{ltb-true, ltb-false}
use lib.Dec.{ltb}
use Rattle.laws.proofs.Booleans.{either}
use Rattle.memory.specs.Chip.{Chip, chip_of}
use Rattle.memory.specs.declared.Model.{Model}
use Rattle.machine.specs.Ranges.{all_in_range, budget_in_range}
use Rattle.machine.specs.Signals.{Signals}
use Rattle.machine.specs.declared.Machine.{Machine}
use Rattle.cpu.specs.Cost.{none}
use Rattle.cpu.specs.Reply.{in_standby, refused_step}
use Rattle.cpu.specs.Run.{Run, ended, run_from, run_of}
use Rattle.cpu.specs.Step.{is_standing, waits, stood_by, step_of}
use Rattle.cpu.specs.declared.Count.{Count}
use Rattle.cpu.proofs.Costs.{none_plus}
use Rattle.cpu.proofs.Phases.{stays}
use Rattle.cpu.proofs.RangeParts.{all_parts}
use Rattle.cpu.proofs.Turns.{all_of, breaks_off, begins, budget_refused, range_refused, single}
use Rattle.step_laws.specs.RangeLaws.{RangeLaws}
use Rattle.step_laws.specs.RunLaws.{after, RunLaws}
use Rattle.step_laws.proofs.Ranges.{range_laws}
use Rattle.step_laws.proofs.Steps.{standby_done}
use Rattle.step_laws.proofs.Splits.{counts, Split, Idle, Fair, fair, split, begun_at, bounded, reached, passed, awake, ends}

-- a run that was not refused, by its parts
told : (r : Run) (c : Count) (m : Machine) → c ≡ r.count → r.refusal ≡ 0 → m ≡ r.machine → r ≡ ended c 0 m
told r c m e z f = rw (e, f) (ap (λ (n : ℕ). ended r.count n r.machine) z)

module _ (chip : Chip) (laws : RangeLaws chip) (rom : List ℕ) (signals : Signals) (m : Machine) where
  abbrev ran : ℕ → Run
  ran n = run_of chip rom signals n m

  abbrev fine : Machine → Type 0
  fine x = all_in_range chip rom x signals ≡ true

  -- a run is refused with 1, or begins
  abbrev Start : ℕ → Type 0
  Start n = (ran n ≡ ended none 1 m) ⊎ (fine m × (n ≤ 65535))

  start_by : (n : ℕ) (a b : Bool) → all_in_range chip rom m signals ≡ a → ltb 65535 n ≡ b → Start n
  start_by n false b e h = inl (sym (range_refused chip rom signals n m e))
  start_by n true true e h = inl (sym (budget_refused chip rom signals n m (ltb-true 65535 n h)))
  start_by n true false e h = inr (e, ltb-false 65535 n h)

  start : (n : ℕ) → Start n
  start n = start_by n (all_in_range chip rom m signals) (ltb 65535 n) refl refl

  module _ (e : fine m) where
    split_at : (n k : ℕ) → n ≤ 65535 → k ≤ n → Split chip rom signals m (n - k) k (ran k) (ran n)
    split_at n k b h =
        let s : k + (n - k) ≡ n = omega arith in
        rw (← begins chip rom signals k m (omega arith) e, ← begins chip rom signals n m b e)
        (rw (zero-add k, s) at (split chip rom signals k (n - k) none m))

    -- what follows the first k steps is a run
    followed : (k j : ℕ) → j ≤ 65535 → run_from chip rom signals j (ran k).count (ran k).machine ≡ after (ran k).count (run_of chip rom signals j (ran k).machine)
    followed k j b =
        let p = all_parts chip rom m signals e in
        let next = (ran k).machine in
        begun_at chip rom signals j (ran k).count next
        ∙ ap (after (ran k).count) (begins chip rom signals j next b (all_of chip rom signals next (laws.run rom signals k m p.0) p.1.0 p.1.1))

    fair_run : (n : ℕ) → n ≤ 65535 → Fair chip rom signals (ran n).count
    fair_run n b = rw (← begins chip rom signals n m b e) (fair chip rom signals n none m (omega arith, omega arith))

  cycles : (n : ℕ) → Start n → Fair chip rom signals (ran n).count
  cycles n (inl e) = rw e (omega arith, omega arith)
  cycles n (inr p) = fair_run p.0 n p.1

  at_most : (n : ℕ) → Start n → (ran n).count.steps ≤ n
  at_most n (inl e) = omega (arith, counts e)
  at_most n (inr p) = bounded chip rom signals (split_at p.0 n n p.1 (omega arith))

  -- a run that begins, split within its count
  split_in : (n k : ℕ) → Start n → ((ran n).refusal ≡ 1 → ⊥) → k ≤ (ran n).count.steps → Split chip rom signals m (n - k) k (ran k) (ran n)
  split_in n k (inl e) f h = absurd (f (ap (λ (r : Run). r.refusal) e))
  split_in n k (inr p) f h = split_at p.0 n k p.1 (omega (arith, at_most n (inr p)))

  prefix : (n k : ℕ) → ((ran n).refusal ≡ 1 → ⊥) → k ≤ (ran n).count.steps → ((ran k).count.steps ≡ k) × ((ran k).refusal ≡ 0)
  prefix n k f h = reached chip rom signals (split_in n k (start n) f h) h

  -- the end of a run, seen from the run of its count
  end_of : (n : ℕ) → ((ran n).refusal ≡ 1 → ⊥) → Idle chip rom signals (waits chip rom signals m) (ran (ran n).count.steps).machine (ran (ran n).count.steps).count (ran n)
  end_of n f = ends chip rom signals (split_in n (ran n).count.steps (start n) f (omega arith)) refl

  whole : (n : ℕ) → ((ran n).refusal ≡ 1 → ⊥) → waits chip rom signals m ≡ false
      → ran (ran n).count.steps ≡ ended (ran n).count 0 (ran n).machine
  whole n f a =
      let i = end_of n f in
      let z = (prefix n (ran n).count.steps f (omega arith)).1 in
      told (ran (ran n).count.steps) (ran n).count (ran n).machine i.uncounted z (i.same a)

  -- a run that begins standing is one standing step
  standing : (n : ℕ) → Start n → 0 < n → ((ran n).refusal ≡ 1 → ⊥) → waits chip rom signals m ≡ true
      → ran n ≡ ended none 0 (stood_by signals.pulse m)
  standing n (inl e) l f w = absurd (f (ap (λ (r : Run). r.refusal) e))
  standing n (inr p) l f w =
      let z : n - 0 ≡ n = omega arith in
      sym (begins chip rom signals n m p.1 p.0)
      ∙ (rw z at (breaks_off chip rom signals n none l m p.0 in_standby _ (stays chip rom signals m w) standby_done))

  next : (n : ℕ) → ((ran n).refusal ≡ 1 → ⊥) → ((ran n).refusal ≡ 0 → ⊥)
      → step_of chip rom signals (ran n).machine ≡ refused_step (ran n).refusal (ran n).machine
  next n f g = (end_of n f).meets g

  rest : (n k : ℕ) → Start n → k < (ran n).count.steps → ran n ≡ after (ran k).count (run_of chip rom signals (n - k) (ran k).machine)
  rest n k (inl e) h = absurd (omega (arith, counts e))
  rest n k (inr p) h =
      passed chip rom signals (split_at p.0 n k p.1 (omega (arith, at_most n (inr p)))) h
      ∙ followed p.0 k (n - k) (omega arith)

  -- nothing first
  untaken : ((ran 0).machine ≡ m) × ((ran 0).count ≡ none)
  unfolding run_of run_from
  untaken = either (λ (r : Run). (r.machine ≡ m) × (r.count ≡ none)) (all_in_range chip rom m signals && budget_in_range 0) (ended none 0 m) (ended none 1 m) (refl, refl) (refl, refl)

  joined_none : (n k : ℕ) → n ≡ 0 → ran (n + k) ≡ after (ran n).count (run_of chip rom signals k (ran n).machine)
  joined_none n k z = rw (z, untaken.0, untaken.1, zero-add k, none_plus (ran k).count)

  joined_on : (n k : ℕ) → Start n → n + k ≤ 65535 → (ran n).count.steps ≡ n → is_standing (ran n).machine ≡ false
      → ran (n + k) ≡ after (ran n).count (run_of chip rom signals k (ran n).machine)
  joined_on n k (inl e) b c w = joined_none n k (sym c ∙ counts e)
  joined_on n k (inr p) b c w =
      let l : n + k - n ≡ k = omega arith in
      awake chip rom signals (rw l at (split_at p.0 (n + k) n b (omega arith))) c w
      ∙ followed p.0 n k (omega arith)

  pub run_laws : RunLaws chip rom signals m
  run_laws = record {
    cycles = λ n. cycles n (start n);
    single = single chip rom signals m;
    bounded = λ n. at_most n (start n);
    prefix = prefix;
    rest = λ n k. rest n k (start n);
    whole = whole;
    standing = λ n. standing n (start n);
    next = next;
    joined = λ n k b c w. ⊎_elim (joined_none n k) (joined_on n k (start n) b c) w;
  }

pub run_laws_of : (model : Model) (rom : List ℕ) (signals : Signals) (m : Machine) → RunLaws (chip_of model) rom signals m
run_laws_of model = run_laws (chip_of model) (range_laws model)
