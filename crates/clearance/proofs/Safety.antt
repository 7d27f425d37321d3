-- Demand 3, from the rules.
-- Assumes nothing.
use mathlib.Core.Path.{◌≡◌, ◌∙◌, ap, refl, sym, subst}
use mathlib.Core.Bool.{Bool, true, false, ◌&&◌, cond, and-true, false≢true}
use mathlib.Core.List.{List, [], ◌∷◌}
use mathlib.Core.Logic.{◌⊎◌, inl, inr, ⊎_elim}
use Prim.Native.Nat.{ℕ, zero, suc, ◌+◌, ◌^◌, ◌<◌, ◌≤◌}
use native.Mathlib.Nat.{not-suc-le-zero}
use native.Mathlib.Omega.{arith}
use borrow.Author.Tests.{ltb-true, leb-true, le-leb}
use lib.Dec.{lit≤}
use lib.ListN.{length}
use Rattle.laws.proofs.Booleans.{both}
use Rattle.memory.specs.Chip.{Chip, chip_of, is_whole, subseries_masks}
use Rattle.memory.specs.Registers.{ar_of}
use Rattle.memory.specs.declared.Model.{Model}
use Rattle.memory.specs.declared.Model.TheVariants.{Upd17132, Upd17120}
use Rattle.memory.proofs.Numbers.{levels_fit, some_level, words_fit}
use Rattle.memory.specs.Range.{cells_in_range}
use Rattle.memory.specs.Write.{kept_of}
use Rattle.machine.specs.Parts.{is_marked, reset_machine}
use Rattle.machine.specs.Ranges.{control_in_range, marks_in_range, machine_in_range, signals_in_range, rom_in_range, all_in_range, budget_in_range}
use Rattle.machine.specs.Signals.{Signals}
use Rattle.machine.specs.declared.Machine.{Machine}
use Rattle.peripherals.specs.Registers.{reset_peripherals}
use Rattle.peripherals.proofs.Writes.{peripheral_laws}
use Rattle.cpu.specs.Cost.{none, step_cost}
use Rattle.cpu.specs.Cycles.{next_cycles}
use Rattle.cpu.specs.Reply.{Step, refused_step}
use Rattle.cpu.specs.Run.{Run, ended, run_from, run_of}
use Rattle.cpu.specs.Step.{step_of}
use Rattle.cpu.specs.declared.Count.{Count}
use Rattle.cpu.proofs.ArFits.{ar_fits}
use Rattle.cpu.proofs.Costs.{cost_below}
use Rattle.cpu.proofs.Ranged.{steps}
use Rattle.cpu.proofs.Turns.{all_of, step_refused}
use Rattle.clearance.specs.Calls.{HostCall, step, run, CallForm, own_in_range, Tally, no_calls, after_reply, run_tally, refusal_at, left_by, tally_after}
use Rattle.clearance.specs.Rules.{EveryRule, flow_at, rule1, rule_of}
use Rattle.clearance.specs.Safe.{Moment, Allowed, Within, During, Good, Safe}
use Rattle.clearance.proofs.Paths.{OnPath}
use Rattle.clearance.proofs.Ruled.{Cleared, Stands}
use Rattle.clearance.proofs.Steps.{Fair, MayMiss, stepped}
use Rattle.clearance.proofs.Walks.{Stage, one_step, walk, on_from, nothing_left, more, goes_on, stops, first_step, spent, reaches}

module _ (chip : Chip) (rom sheet : List ℕ) (g : Cleared chip rom sheet) where
  -- what holds of the record between any two steps
  pub record Inv (m : Machine) (t : Tally) : Type 0 where
    pub ranged : machine_in_range chip m ≡ true
    pub path : OnPath chip rom sheet m.control t

  moment : (m : Machine) (t : Tally) → Inv m t → Moment chip rom sheet m t
  moment m t v = record { inside = v.path.here.inside; opened = v.path.opened; level = v.path.here.level }

  module _ (i : Signals) where
    abbrev S : Machine → Step
    S m = step_of chip rom i m

    abbrev Holds : Stage chip rom i → Type 0
    Holds s = Inv s.machine s.tally

    -- with the record and the ROM in range, what refusal 1 tests is the call's own
    own : (m : Machine) → machine_in_range chip m ≡ true → all_in_range chip rom m i ≡ signals_in_range i
    unfolding all_in_range
    own m r = rw (r, g.whole) (and-true (signals_in_range i))

    run_is : (budget : ℕ) (m : Machine) → machine_in_range chip m ≡ true → (b : Bool) → (signals_in_range i && budget_in_range budget) ≡ b
        → run_of chip rom i budget m ≡ cond b (run_from chip rom i budget none m) (ended none 1 m)
    unfolding run_of
    run_is budget m r b e = rw (own m r, e)

    -- with inputs in range
    module _ (fine : signals_in_range i ≡ true) where
      fair : (m : Machine) (t : Tally) → Inv m t → Fair chip rom sheet g i (is_marked m.control.skip) (flow_at rom m.control.pc) t (S m)
      fair m t v = stepped chip rom sheet g i m t v.ranged v.path (all_of chip rom i m v.ranged fine g.whole)

      kept_by_step : (s : Stage chip rom i) → Holds s → Holds (one_step chip rom i s)
      kept_by_step s v = record { ranged = steps chip g.small g.addresses rom i s.machine v.ranged; path = (fair s.machine s.tally v).path }

      kept_by_steps : (k : ℕ) (s : Stage chip rom i) → Holds s → Holds (walk chip rom i k s)
      kept_by_steps zero s v = v
      kept_by_steps (suc k) s v = kept_by_step (walk chip rom i k s) (kept_by_steps k s v)

      -- how a run ends
      pub record Ends (left : ℕ) (c : Count) (s : Stage chip rom i) : Type 0 where
        pub count : ℕ
        pub few : count ≤ left
        pub counted : (run_from chip rom i left c s.machine).count.steps ≡ c.steps + count
        pub answered : MayMiss chip (run_from chip rom i left c s.machine).refusal
        pub after : Inv (run_from chip rom i left c s.machine).machine (walk chip rom i count s).tally

      ends : (left : ℕ) (c : Count) (s : Stage chip rom i) (b : Bool) → on_from chip rom i s.machine ≡ b → Holds s → Ends left c s
      ends zero c s b e v =
          let q = nothing_left chip rom i c s.machine in
          record {
            count = 0;
            few = omega arith;
            counted = ap (λ (r : Run). r.count.steps) q ∙ omega arith;
            answered = inl (ap (λ (r : Run). r.refusal) q);
            after = rw q v;
          }
      ends (suc l) c s true e v =
          let x = ends l (more chip rom i s.machine c) (one_step chip rom i s) (on_from chip rom i (one_step chip rom i s).machine) refl (kept_by_step s v) in
          let q = goes_on chip rom i l c s.machine e in
          record {
            count = suc x.count;
            few = omega (arith, x.few);
            counted = ap (λ (r : Run). r.count.steps) q ∙ omega (arith, x.counted);
            answered = subst (λ (r : Run). MayMiss chip r.refusal) (sym q) x.answered;
            after = rw q (subst (Inv _) (ap (λ (y : Stage chip rom i). y.tally) (sym (first_step chip rom i x.count s))) x.after);
          }
      ends (suc l) c s false e v =
          let q = stops chip rom i l c s.machine e in
          record {
            count = (step_cost chip rom i s.machine).steps;
            few = omega (arith, cost_below (S s.machine).reply (next_cycles rom s.machine));
            counted = ap (λ (r : Run). r.count.steps) q;
            answered = subst (λ (r : Run). MayMiss chip r.refusal) (sym q) (fair s.machine s.tally v).answered;
            after = rw (q, ← spent chip rom i s (S s.machine).reply (next_cycles rom s.machine) refl) (kept_by_step s v);
          }

      -- a run whose budget is in range too
      module _ (budget : ℕ) (small : budget_in_range budget ≡ true) (m : Machine) (t : Tally) (v : Inv m t) where
        abbrev start : Stage chip rom i
        start = record { machine = m; tally = t }

        ending : Ends budget none start
        ending = ends budget none start (on_from chip rom i m) refl v

        runs : (k : ℕ) → k ≤ budget → run_of chip rom i k m ≡ run_from chip rom i k none m
        unfolding budget_in_range
        runs k h = run_is k m v.ranged true (rw (fine, le-leb k 65535 (omega (arith, leb-true budget 65535 small))))

        whole_run : run_of chip rom i budget m ≡ run_from chip rom i budget none m
        whole_run = runs budget (omega arith)

        ended_so : MayMiss chip (run_of chip rom i budget m).refusal
        ended_so = subst (λ (r : Run). MayMiss chip r.refusal) (sym whole_run) ending.answered

        completed : (run_of chip rom i budget m).count.steps ≡ ending.count
        completed = ap (λ (r : Run). r.count.steps) whole_run ∙ omega (arith, ending.counted)

        -- the run of no more steps than it completes, and the tally then
        there : (k : ℕ) → k ≤ ending.count → (run_of chip rom i k m).machine ≡ (walk chip rom i k start).machine
        there k h =
            ap (λ (r : Run). r.machine) (runs k (omega (arith, ending.few)))
            ∙ reaches chip rom i budget k none start (on_from chip rom i m) refl (omega (arith, ending.counted))

        then : (k : ℕ) → k ≤ ending.count → run_tally chip rom i k m t ≡ (walk chip rom i k start).tally
        unfolding run_tally
        then zero h = refl
        then (suc k) h = cc (there k (omega arith), then k (omega arith))

        within : Within chip rom sheet i budget m t
        unfolding Within
        within k some =
            let h : k ≤ ending.count = omega (arith, completed) in
            moment _ _ (rw (there k h, then k h) (kept_by_steps k start v))

        ran : Inv (run_of chip rom i budget m).machine (run_tally chip rom i (run_of chip rom i budget m).count.steps m t)
        ran = rw (completed, then ending.count (omega arith), whole_run) ending.after

    -- a run of no steps leaves the record
    no_steps : (m : Machine) → machine_in_range chip m ≡ true → (b : Bool) → (signals_in_range i && budget_in_range 0) ≡ b → (run_of chip rom i 0 m).machine ≡ m
    no_steps m r true e = ap (λ (x : Run). x.machine) (run_is 0 m r true e ∙ nothing_left chip rom i none m)
    no_steps m r false e = ap (λ (x : Run). x.machine) (run_is 0 m r false e)

  -- one call
  pub record Called (k : HostCall) (m : Machine) (t : Tally) : Type 0 where
    pub allowed : Allowed chip rom sheet k m
    pub during : During chip rom sheet k m t
    pub after : Inv (left_by chip rom k m) (tally_after chip rom k m t)

  never : (n : ℕ) → MayMiss chip n → is_whole chip ≡ true → n ≡ 0
  never n a w = ⊎_elim (λ e. e) (λ (f : (n ≡ 31) × (is_whole chip ≡ false)). absurd (false≢true (sym f.1 ∙ w))) a

  or_missing : (n : ℕ) → MayMiss chip n → (n ≡ 0) ⊎ (n ≡ 31)
  or_missing n a = ⊎_elim (λ e. inl e) (λ (f : (n ≡ 31) × (is_whole chip ≡ false)). inr f.0) a

  answered_call : (k : HostCall) (m : Machine) → own_in_range k ≡ true → MayMiss chip (refusal_at chip rom k m) → Allowed chip rom sheet k m
  answered_call k m h a = record {
    answered = λ _ w. never (refusal_at chip rom k m) a w;
    missing = λ _. or_missing (refusal_at chip rom k m) a;
    only_one = λ q. absurd (false≢true (sym q ∙ h));
  }

  refused_call : (k : HostCall) (m : Machine) → own_in_range k ≡ false → refusal_at chip rom k m ≡ 1 → Allowed chip rom sheet k m
  refused_call k m h a = record {
    answered = λ q w. absurd (false≢true (sym h ∙ q));
    missing = λ q. absurd (false≢true (sym h ∙ q));
    only_one = λ q. a;
  }

  by_step : (form : CallForm) (i : Signals) (m : Machine) (t : Tally) → Inv m t → (b : Bool) → signals_in_range i ≡ b → Called (step form i) m t
  by_step form i m t v true h = record {
    allowed = answered_call (step form i) m h (fair i h m t v).answered;
    during = tt;
    after = kept_by_step i h (record { machine = m; tally = t }) v;
  }
  by_step form i m t v false h =
      let d : refused_step 1 m ≡ step_of chip rom i m = step_refused chip rom i m (own i m v.ranged ∙ h) in
      record {
        allowed = refused_call (step form i) m h (rw (← d));
        during = tt;
        after = subst (λ (s : Step). Inv s.machine (after_reply s.reply (is_marked m.control.skip) (flow_at rom m.control.pc) t)) d v;
      }

  by_run : (form : CallForm) (i : Signals) (budget : ℕ) (m : Machine) (t : Tally) → Inv m t → (b : Bool) → (signals_in_range i && budget_in_range budget) ≡ b
      → Called (run form i budget) m t
  unfolding Within run_tally
  by_run form i budget m t v true h =
      let p = both (signals_in_range i) (budget_in_range budget) h in
      record {
        allowed = answered_call (run form i budget) m h (ended_so i p.0 budget p.1 m t v);
        during = within i p.0 budget p.1 m t v;
        after = ran i p.0 budget p.1 m t v;
      }
  by_run form i budget m t v false h =
      let d = run_is i budget m v.ranged false h in
      record {
        allowed = refused_call (run form i budget) m h (ap (λ (r : Run). r.refusal) d);
        during = λ k some.
            let none : k ≡ 0 = (let z : k ≤ 0 = subst (λ (r : Run). k ≤ r.count.steps) d some in omega arith) in
            moment _ _ (rw (none, no_steps i m v.ranged (signals_in_range i && budget_in_range 0) refl) v);
        after = subst (λ (r : Run). Inv r.machine (run_tally chip rom i r.count.steps m t)) (sym d) v;
      }

  called : (k : HostCall) (m : Machine) (t : Tally) → Inv m t → Called k m t
  called (step form i) m t v = by_step form i m t v (signals_in_range i) refl
  called (run form i budget) m t v = by_run form i budget m t v (signals_in_range i && budget_in_range budget) refl

  good : (ks : List HostCall) (m : Machine) (t : Tally) → Inv m t → Good chip rom sheet m t ks
  good [] m t v = moment m t v
  good (k ∷ ks) m t v =
      let x = called k m t v in
      (moment m t v, (x.allowed, (x.during, good ks (left_by chip rom k m) (tally_after chip rom k m t) x.after)))

-- reset begins at word 0 with no open call
starts : (chip : Chip) (rom sheet : List ℕ) → 0 < length rom → EveryRule chip rom sheet → Stands chip rom sheet 0 0
unfolding rule_of rule1
starts chip rom sheet h every = record { inside = h; level = every 0 1 h (lit≤ tt) (lit≤ tt) }

-- reset is in range on every model
reset_ranged : (model : Model) → machine_in_range (chip_of model) reset_machine ≡ true
unfolding machine_in_range cells_in_range kept_of subseries_masks control_in_range marks_in_range
reset_ranged Upd17132 = (peripheral_laws reset_peripherals).start
reset_ranged Upd17120 = (peripheral_laws reset_peripherals).start

-- a ROM of 1,024 words is a whole table: AR has ten bits
tables : (model : Model) (cells : List ℕ) → cells_in_range (chip_of model) cells ≡ true → ar_of cells < 2 ^ 10
tables Upd17132 cells e = ar_fits Upd17132 cells e
tables Upd17120 cells e = ar_fits Upd17120 cells e

-- the theorem: where every rule holds, every list of calls from reset is good
pub safe : (model : Model) (rom sheet : List ℕ) → rom_in_range (chip_of model) rom ≡ true → EveryRule (chip_of model) rom sheet
    → Safe (chip_of model) rom sheet
unfolding rom_in_range
safe model rom sheet whole every calls =
    let p = both _ _ whole in
    let g : Cleared (chip_of model) rom sheet = record {
      small = levels_fit model;
      some = some_level model;
      addresses = ar_fits model;
      table = tables model;
      whole = whole;
      short = omega (arith, leb-true (length rom) (chip_of model).words p.1, words_fit model);
      every = every;
    } in
    good (chip_of model) rom sheet g calls reset_machine no_calls
    (record {
      ranged = reset_ranged model;
      path = record {
        places = refl;
        here = starts (chip_of model) rom sheet (ltb-true 0 (length rom) p.0) every;
        opened = refl;
        skipping = λ x. absurd (false≢true x);
        stacked = λ k h. absurd (not-suc-le-zero h);
      };
    })
