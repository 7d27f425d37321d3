-- A run split at a number of steps.
-- Assumes nothing.
use mathlib.Core.Path.{◌≡◌, ◌∙◌, refl, ap, sym}
use mathlib.Core.Bool.{Bool, true, false, false≢true}
use mathlib.Core.List.{List}
use Prim.Native.Nat.{ℕ, zero, suc, ◌+◌, ◌*◌, ◌≤◌, ◌<◌}
use lib.ListN.{get_or}
use native.Mathlib.Nat.{add-zero, zero-add, suc-add}
use native.Mathlib.Omega.{arith}
use Rattle.memory.specs.Chip.{Chip}
use Rattle.machine.specs.Signals.{Signals}
use Rattle.machine.specs.declared.Machine.{Machine}
use Rattle.cpu.specs.Cost.{cost_of, none, plus}
use Rattle.cpu.specs.Cycles.{next_cycles}
use Rattle.cpu.specs.Reply.{Reply, done, in_standby, refused, Step, refused_step}
use Rattle.cpu.specs.Run.{Run, after_step, ended, run_from}
use Rattle.cpu.specs.Step.{is_standing, waits, step_of}
use Rattle.cpu.specs.declared.Count.{Count}
use Rattle.cpu.proofs.Costs.{plus_assoc, plus_none, cycles_few, cycles_some}
use Rattle.step_laws.specs.RunLaws.{after}
use Rattle.step_laws.proofs.Steps.{kept, stays}

pub counts : {p r : Run} → p ≡ r → p.count.steps ≡ r.count.steps
counts e = ap (λ (x : Run). x.count.steps) e

module _ (chip : Chip) (rom : List ℕ) (signals : Signals) where
  abbrev from : ℕ → Count → Machine → Run
  from n c m = run_from chip rom signals n c m

  -- with a completed step more
  abbrev more : Machine → Count → Count
  more m c = plus c (cost_of (next_cycles rom m) done)

  -- what a step does to the run that takes it
  data Turn (m : Machine) : Type 0 where
    goes : (next : Machine) → is_standing next ≡ false → ((n : ℕ) (c : Count) → from (suc n) c m ≡ from n (more m c) next) → Turn m
    stands : (next : Machine) → is_standing next ≡ true → ((n : ℕ) (c : Count) → from (suc n) c m ≡ ended (more m c) 0 next) → Turn m
    waited : (next : Machine) → waits chip rom signals m ≡ true → ((n : ℕ) (c : Count) → from (suc n) c m ≡ ended c 0 next) → Turn m
    stops : (q : ℕ) → step_of chip rom signals m ≡ refused_step q m → ((n : ℕ) (c : Count) → from (suc n) c m ≡ ended c q m) → Turn m

  taken : (n : ℕ) (c : Count) (m : Machine) (x : Step) → step_of chip rom signals m ≡ x
      → from (suc n) c m ≡ after_step (plus c (cost_of (next_cycles rom m) x.reply)) x.machine x.reply (from n (plus c (cost_of (next_cycles rom m) x.reply)) x.machine)
  unfolding run_from
  taken n c m x e = rw e

  turn : (m next : Machine) (r : Reply) (b : Bool) → step_of chip rom signals m ≡ record { reply = r; machine = next } → is_standing next ≡ b → Turn m
  turn m next done true e h = stands next h (λ n c. taken n c m _ e ∙ rw h)
  turn m next done false e h = goes next h (λ n c. taken n c m _ e ∙ rw h)
  turn m next in_standby b e h =
      waited next (stays chip rom signals m (ap (λ (s : Step). s.reply) e)) (λ n c. taken n c m _ e ∙ ap (λ (k : Count). ended k 0 next) (plus_none c))
  turn m next (refused q) b e h =
      let f = e ∙ ap (refused_step q) (sym (ap (λ (s : Step). s.machine) e) ∙ kept chip rom signals m q (ap (λ (s : Step). s.reply) e)) in
      stops q f (λ n c. taken n c m _ f ∙ ap (λ (k : Count). ended k q m) (plus_none c))

  turn_of : (m : Machine) → Turn m
  turn_of m = let x = step_of chip rom signals m in turn m x.machine x.reply (is_standing x.machine) refl refl

  -- what was counted before a run is added to its count
  counted_turn : (n : ℕ) (c s : Count) (m : Machine) → ((k : Count) (x : Machine) → from n (plus c k) x ≡ after c (from n k x)) → Turn m
      → from (suc n) (plus c s) m ≡ after c (from (suc n) s m)
  counted_turn n c s m ih (goes next h law) =
      law n (plus c s) ∙ ap (λ (k : Count). from n k next) (plus_assoc c s (cost_of (next_cycles rom m) done)) ∙ ih (more m s) next ∙ ap (after c) (sym (law n s))
  counted_turn n c s m ih (stands next h law) =
      law n (plus c s) ∙ ap (λ (k : Count). ended k 0 next) (plus_assoc c s (cost_of (next_cycles rom m) done)) ∙ ap (after c) (sym (law n s))
  counted_turn n c s m ih (waited next w law) = law n (plus c s) ∙ ap (after c) (sym (law n s))
  counted_turn n c s m ih (stops q e law) = law n (plus c s) ∙ ap (after c) (sym (law n s))

  counted : (n : ℕ) (c s : Count) (m : Machine) → from n (plus c s) m ≡ after c (from n s m)
  unfolding run_from
  counted zero c s m = refl
  counted (suc n) c s m = counted_turn n c s m (counted n c) (turn_of m)

  pub begun_at : (n : ℕ) (c : Count) (m : Machine) → from n c m ≡ after c (from n none m)
  begun_at n c m = ap (λ (k : Count). from n k m) (sym (plus_none c)) ∙ counted n c none m

  -- at least as many cycles as steps, and at most twice as many
  abbrev pub Fair : Count → Type 0
  Fair c = (c.steps ≤ c.cycles) × (c.cycles ≤ 2 * c.steps)

  one_more : (m : Machine) (c : Count) → Fair c → Fair (more m c)
  one_more m c f =
      let word = get_or rom m.control.pc 0 in
      let some = cycles_some word m.control.skip in
      let few = cycles_few word m.control.skip in
      (omega (arith, f.0, some), omega (arith, f.1, few))

  fair_turn : (n : ℕ) (c : Count) (m : Machine) → ((k : Count) (x : Machine) → Fair k → Fair (from n k x).count) → Turn m → Fair c → Fair (from (suc n) c m).count
  fair_turn n c m ih (goes next h law) f = rw (law n c) (ih (more m c) next (one_more m c f))
  fair_turn n c m ih (stands next h law) f = rw (law n c) (one_more m c f)
  fair_turn n c m ih (waited next w law) f = rw (law n c) f
  fair_turn n c m ih (stops q e law) f = rw (law n c) f

  pub fair : (n : ℕ) (c : Count) (m : Machine) → Fair c → Fair (from n c m).count
  unfolding run_from
  fair zero c m f = f
  fair (suc n) c m f = fair_turn n c m (fair n) (turn_of m) f

  -- a run p from m of so many steps that t are then completed, and the run r of j steps more
  pub data Split (m : Machine) (j t : ℕ) (p r : Run) : Type 0 where
    early : r ≡ p → p.count.steps < t → Split m j t p r
    stood : r ≡ p → p.refusal ≡ 0 → p.count.steps ≡ t → is_standing p.machine ≡ true → Split m j t p r
    on : p.refusal ≡ 0 → p.count.steps ≡ t → r ≡ from j p.count p.machine
        → (waits chip rom signals m ≡ false → waits chip rom signals p.machine ≡ false) → Split m j t p r

  -- the same from a step sooner
  sooner : {j t : ℕ} {p r : Run} (m next : Machine) → is_standing next ≡ false → Split next j t p r → Split m j t p r
  sooner m next h (early e l) = early e l
  sooner m next h (stood e z f w) = stood e z f w
  sooner m next h (on z f e w) = on z f e (λ a. w (rw h))

  split_turn : (k j : ℕ) (c : Count) (m : Machine) → ((x : Machine) → Split x j (c.steps + 1 + k) (from k (more m c) x) (from (k + j) (more m c) x)) → Turn m
      → Split m j (c.steps + suc k) (from (suc k) c m) (from (suc (k + j)) c m)
  split_turn k j c m ih (goes next h law) =
      let e : c.steps + suc k ≡ c.steps + 1 + k = omega arith in
      rw (e, law k c, law (k + j) c) (sooner m next h (ih next))
  split_turn zero j c m ih (stands next h law) = rw (law zero c, law (zero + j) c) (stood refl refl (omega arith) h)
  split_turn (suc k) j c m ih (stands next h law) = rw (law (suc k) c, law (suc k + j) c) (early refl (omega arith))
  split_turn k j c m ih (waited next w law) = rw (law k c, law (k + j) c) (early refl (omega arith))
  split_turn k j c m ih (stops q e law) = rw (law k c, law (k + j) c) (early refl (omega arith))

  pub split : (k j : ℕ) (c : Count) (m : Machine) → Split m j (c.steps + k) (from k c m) (from (k + j) c m)
  unfolding run_from
  split zero j c m = rw (zero-add j) (on refl (sym (add-zero c.steps)) refl (λ a. a))
  split (suc k) j c m = rw (suc-add k j) (split_turn k j c m (split k j (more m c)) (turn_of m))

  -- a run that completes nothing leaves the count, and the machine where it does not begin with waiting; where it is refused the step is
  pub record Idle (waiting : Bool) (m : Machine) (c : Count) (r : Run) : Type 0 where
    pub same : waiting ≡ false → r.machine ≡ m
    pub uncounted : r.count ≡ c
    pub meets : (r.refusal ≡ 0 → ⊥) → step_of chip rom signals r.machine ≡ refused_step r.refusal r.machine

  idle_turn : (n : ℕ) (c : Count) (m : Machine) → Turn m → (from (suc n) c m).count.steps ≡ c.steps → Idle (waits chip rom signals m) m c (from (suc n) c m)
  idle_turn n c m (goes next h law) = rw (law n c) (λ e. absurd (omega (arith, counts (begun_at n (more m c) next))))
  idle_turn n c m (stands next h law) = rw (law n c) (λ e. absurd (omega arith))
  idle_turn n c m (waited next w law) =
      rw (law n c) (λ z. record { same = λ a. absurd (false≢true (sym a ∙ w)); uncounted = refl; meets = λ f. absurd (f refl) })
  idle_turn n c m (stops q e law) = rw (law n c) (λ z. record { same = λ a. refl; uncounted = refl; meets = λ f. e })

  idle : (n : ℕ) (c : Count) (m : Machine) → (from n c m).count.steps ≡ c.steps → Idle (waits chip rom signals m) m c (from n c m)
  unfolding run_from
  idle zero c m e = record { same = λ a. refl; uncounted = refl; meets = λ n. absurd (n refl) }
  idle (suc n) c m e = idle_turn n c m (turn_of m) e

  module _ {m : Machine} {j t : ℕ} {p r : Run} where
    pub bounded : Split m j t p r → p.count.steps ≤ t
    bounded (early e l) = omega arith
    bounded (stood e z f h) = omega arith
    bounded (on z f e w) = omega arith

    pub reached : Split m j t p r → t ≤ r.count.steps → (p.count.steps ≡ t) × (p.refusal ≡ 0)
    reached (early e l) h = absurd (omega (arith, counts e))
    reached (stood e z f w) h = (f, z)
    reached (on z f e w) h = (f, z)

    pub passed : Split m j t p r → t < r.count.steps → r ≡ from j p.count p.machine
    passed (early e l) h = absurd (omega (arith, counts e))
    passed (stood e z f w) h = absurd (omega (arith, counts e))
    passed (on z f e w) h = e

    pub awake : Split m j t p r → p.count.steps ≡ t → is_standing p.machine ≡ false → r ≡ from j p.count p.machine
    awake (early e l) h w = absurd (omega arith)
    awake (stood e z f v) h w = absurd (false≢true (sym w ∙ v))
    awake (on z f e v) h w = e

    pub ends : Split m j t p r → r.count.steps ≡ t → Idle (waits chip rom signals m) p.machine p.count r
    ends (early e l) h = absurd (omega (arith, counts e))
    ends (stood e z f w) h = record {
      same = λ a. ap (λ (x : Run). x.machine) e;
      uncounted = ap (λ (x : Run). x.count) e;
      meets = λ n. absurd (n (ap (λ (x : Run). x.refusal) e ∙ z));
    }
    ends (on z f e w) h =
        let i = rw (← e) at (idle j p.count p.machine (rw (← e) (h ∙ sym f))) in
        record { same = λ a. i.same (w a); uncounted = i.uncounted; meets = i.meets }
