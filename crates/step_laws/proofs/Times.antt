-- From reset the timer moves by the cycles of the steps, while nothing is written to it.
-- Assumes nothing.
use mathlib.Core.Path.{◌≡◌, ◌∙◌, ap, refl, subst, sym}
use mathlib.Core.Bool.{Bool, true, false, cond, not, ◌&&◌, false≢true}
use lib.Bits.{bit_and}
use Rattle.laws.specs.Bit.{bit}
use Rattle.peripherals.specs.Timer.{clock_of, comes_of}
use mathlib.Core.List.{List, [], ◌∷◌}
use Prim.Native.Nat.{ℕ, zero, suc, ◌+◌, ◌/◌, ◌%◌, ◌<◌}
use native.Mathlib.Nat.{add-zero, zero-add, add_assoc}
use native.Mathlib.Omega.{arith}
use lib.Dec.{eqb, lit≤}
use lib.ListN.{get_or}
use Rattle.isa.specs.declared.Instruction.{Instruction}
use Rattle.isa.specs.declared.Instruction.TheVariants.{Poke, Put}
use Rattle.memory.specs.Chip.{Chip}
use Rattle.memory.specs.Registers.{window_of}
use Rattle.machine.specs.Parts.{HALT, cells_of, reset_machine}
use Rattle.machine.specs.Signals.{Signals}
use Rattle.machine.specs.declared.Machine.{Machine}
use Rattle.peripherals.specs.Registers.{poke_of}
use Rattle.peripherals.specs.Timer.{tick_of}
use Rattle.peripherals.specs.TimerLaws.{Since, pulsed, Counting}
use Rattle.peripherals.specs.Registers.{is_on}
use Rattle.peripherals.specs.Table.{TM, TMEN}
use Rattle.peripherals.proofs.Counting.{counting_laws}
use Rattle.peripherals.specs.declared.Peripherals.{Peripherals}
use Rattle.peripherals.proofs.Since.{reset_laws}
use Rattle.operations.proofs.Sets.{sets}
use Rattle.operations.specs.Settings.{settings_of}
use Rattle.cpu.specs.Cycles.{next_cycles}
use Rattle.cpu.specs.Cost.{none, plus, cost_of}
use Rattle.cpu.specs.Reply.{Reply, done, in_standby, refused, Step}
use Rattle.cpu.specs.Run.{Run, ended, after_step, run_from, run_of}
use Rattle.cpu.specs.Step.{is_standing, waits, ticked_by, stood_by, step_of}
use Rattle.cpu.specs.declared.Count.{Count}
use Rattle.machine.specs.Ranges.{all_in_range, budget_in_range}
use Rattle.laws.proofs.Booleans.{either}
use Rattle.cpu.proofs.Costs.{cycles_few}
use Rattle.step_laws.specs.TimeLaws.{moved_by, after_steps, cycles_in, pulse_of, pulses_by, pulses_in, LeavesTimer, AllLeaveTimer, TimeLaws, TickPhase}
use Rattle.step_laws.proofs.Steps.{stays, stepped}

-- neither POKE 11H nor PUT
abbrev Leaves : Instruction → Type 0
Leaves i = (i ≡ Poke 0x11 → ⊥) × ((q : ℕ) → i ≡ Put q → ⊥)

-- what such an instruction sets
set_since : (cells : List ℕ) (cycles : ℕ) (p : Peripherals) → Since cycles p → (i : Instruction) → Leaves i → Since cycles (settings_of cells p i)
set_since cells cycles p h =
    sets cells p (λ (i : Instruction) (x : Peripherals). Leaves i → Since cycles x) (λ i n. h)
    (λ rf n. reset_laws.poke cycles rf (window_of cells) p (λ e. n.0 (ap Poke e)) h) (λ at n. absurd (n.1 at refl))

set_counting : (cells : List ℕ) (mode modulo n : ℕ) (p : Peripherals) → Counting mode modulo n p → (i : Instruction) → Leaves i
    → Counting mode modulo n (settings_of cells p i)
set_counting cells mode modulo n p h =
    sets cells p (λ (i : Instruction) (x : Peripherals). Leaves i → Counting mode modulo n x) (λ i k. h)
    (λ rf k. counting_laws.poke mode modulo n rf (window_of cells) p (λ e. k.0 (ap Poke e)) h) (λ at k. absurd (k.1 at refl))

-- TMEN and the clock by the mode alone
abbrev mode_on : ℕ → Bool
mode_on mode = not (eqb (bit_and mode TMEN) 0)

-- no instruction sets the divider
set_divider : (cells : List ℕ) (p : Peripherals) (i : Instruction) → (settings_of cells p i).divider ≡ p.divider
unfolding poke_of
set_divider cells p = sets cells p (λ (i : Instruction) (x : Peripherals). x.divider ≡ p.divider) (λ i. refl) (λ rf. refl) (λ at. refl)

module _ (chip : Chip) (rom : List ℕ) where
  -- the divider after a step
  module _ (s : Signals) (m : Machine) (cycles : ℕ) (h : m.peripherals.divider ≡ cycles % 128) where
    turned : (p : Peripherals) (more : ℕ) → p.divider ≡ m.peripherals.divider → (tick_of p more s.pulse).divider ≡ (cycles + more) % 128
    unfolding tick_of
    turned p more e = omega (arith, e, h)

    in_mark : (b : Bool) → (cond b (ticked_by 1 s.pulse m) m).peripherals.divider ≡ (cycles + cond b 1 0) % 128
    in_mark true = turned m.peripherals 1 refl
    in_mark false = rw (add-zero cycles) h

    turns : (step_of chip rom s m).machine.peripherals.divider ≡ (cycles + moved_by chip rom m (step_of chip rom s m).reply) % 128
    turns =
        stepped chip rom s m (λ (x : Step). x.machine.peripherals.divider ≡ (cycles + moved_by chip rom m x.reply) % 128)
        (λ n. rw (add-zero cycles) h) (λ w. in_mark (eqb m.control.standby HALT))
        (λ u. turned m.peripherals (next_cycles rom m) refl)
        (λ u i w. turned _ (next_cycles rom m) (set_divider (cells_of m) m.peripherals i))

  divided : (ss : List Signals) (m : Machine) (cycles : ℕ) → m.peripherals.divider ≡ cycles % 128
      → (after_steps chip rom ss m).peripherals.divider ≡ (cycles + cycles_in chip rom ss m) % 128
  divided [] m cycles h = rw (add-zero cycles) h
  divided (s ∷ ss) m cycles h =
      rw (← add_assoc cycles (moved_by chip rom m (step_of chip rom s m).reply) (cycles_in chip rom ss (step_of chip rom s m).machine))
      (divided ss (step_of chip rom s m).machine _ (turns s m cycles h))

  module _ (s : Signals) (m : Machine) (cycles : ℕ) (h : Since cycles m.peripherals) where
    -- by the answer
    if_refused : (n : ℕ) → Since (cycles + moved_by chip rom m (refused n)) m.peripherals
    if_refused n = rw (add-zero cycles) h

    -- in HALT and in STOP
    by_mark : (b : Bool) → Since (cycles + cond b 1 0) (cond b (ticked_by 1 s.pulse m) m).peripherals
    by_mark true = reset_laws.tick cycles 1 s.pulse m.peripherals (lit≤ tt) h
    by_mark false = rw (add-zero cycles) h

    if_standing : Since (cycles + moved_by chip rom m in_standby) (stood_by s.pulse m).peripherals
    if_standing = by_mark (eqb m.control.standby HALT)

    if_done : (p : Peripherals) → Since cycles p → Since (cycles + moved_by chip rom m done) (tick_of p (next_cycles rom m) s.pulse)
    if_done p q = reset_laws.tick cycles (next_cycles rom m) s.pulse p (cycles_few (get_or rom m.control.pc 0) m.control.skip) q

    step : LeavesTimer chip rom m (step_of chip rom s m).reply
        → Since (cycles + moved_by chip rom m (step_of chip rom s m).reply) (step_of chip rom s m).machine.peripherals
    step =
        stepped chip rom s m (λ (x : Step). LeavesTimer chip rom m x.reply → Since (cycles + moved_by chip rom m x.reply) x.machine.peripherals)
        (λ n leaves. if_refused n) (λ w leaves. if_standing) (λ u leaves. if_done m.peripherals h)
        (λ u i w leaves. if_done _ (set_since (cells_of m) cycles m.peripherals h i (leaves refl u i w)))

  steps : (ss : List Signals) (m : Machine) (cycles : ℕ) → AllLeaveTimer chip rom ss m → Since cycles m.peripherals
      → Since (cycles + cycles_in chip rom ss m) (after_steps chip rom ss m).peripherals
  steps [] m cycles a h = rw (add-zero cycles) h
  steps (s ∷ ss) m cycles a h =
      rw (← add_assoc cycles (moved_by chip rom m (step_of chip rom s m).reply) (cycles_in chip rom ss (step_of chip rom s m).machine))
      (steps ss (step_of chip rom s m).machine _ a.1 (step s m cycles h a.0))

  module _ (ss : List Signals) (a : AllLeaveTimer chip rom ss reset_machine) where
    since : Since (cycles_in chip rom ss reset_machine) (after_steps chip rom ss reset_machine).peripherals
    since = rw zero-add at (steps ss reset_machine 0 a reset_laws.start)

    counter : (after_steps chip rom ss reset_machine).peripherals.counter ≡ cycles_in chip rom ss reset_machine / 16 % 256
    counter = since.counter

  divider : (ss : List Signals) → (after_steps chip rom ss reset_machine).peripherals.divider ≡ cycles_in chip rom ss reset_machine % 128
  divider ss = rw zero-add at (divided ss reset_machine 0 reset_laws.start.divider)

  module _ (mode modulo : ℕ) (on : mode_on mode ≡ true) where
    -- a tick after what leaves mode, modulo, counter and divider
    goes_on : (s : Signals) (m : Machine) (n cycles : ℕ) (q : Peripherals) → q.divider ≡ m.peripherals.divider
        → get_or m.peripherals.registers TM 0 ≡ mode → Counting mode modulo n q
        → Counting mode modulo (n + pulse_of chip rom s m cycles) (tick_of q cycles s.pulse)
    goes_on s m n cycles q d e c =
        let k : bit (comes_of (clock_of q.registers) q.divider cycles s.pulse) ≡ pulse_of chip rom s m cycles = rw (c.same_mode, e, d) in
        subst (λ (x : ℕ). Counting mode modulo (n + x) (tick_of q cycles s.pulse)) k
        (counting_laws.tick mode modulo n cycles s.pulse q (ap mode_on c.same_mode ∙ on) c)

    in_standby_lem : (s : Signals) (m : Machine) (n : ℕ) → Counting mode modulo n m.peripherals → (b : Bool)
        → Counting mode modulo (n + cond b (pulse_of chip rom s m 1) 0) (cond b (ticked_by 1 s.pulse m) m).peripherals
    in_standby_lem s m n c true = goes_on s m n 1 m.peripherals refl c.same_mode c
    in_standby_lem s m n c false = rw (add-zero n) c

    counts : (s : Signals) (m : Machine) (n : ℕ) → Counting mode modulo n m.peripherals → LeavesTimer chip rom m (step_of chip rom s m).reply
        → Counting mode modulo (n + pulses_by chip rom s m (step_of chip rom s m).reply) (step_of chip rom s m).machine.peripherals
    counts s m n c =
        stepped chip rom s m (λ (x : Step). LeavesTimer chip rom m x.reply → Counting mode modulo (n + pulses_by chip rom s m x.reply) x.machine.peripherals)
        (λ k leaves. rw (add-zero n) c) (λ w leaves. in_standby_lem s m n c (eqb m.control.standby HALT))
        (λ u leaves. goes_on s m n (next_cycles rom m) m.peripherals refl c.same_mode c)
        (λ u i w leaves. goes_on s m n (next_cycles rom m) _ (set_divider (cells_of m) m.peripherals i) c.same_mode
        (set_counting (cells_of m) mode modulo n m.peripherals c i (leaves refl u i w)))

    all_count : (ss : List Signals) (m : Machine) (n : ℕ) → Counting mode modulo n m.peripherals → AllLeaveTimer chip rom ss m
        → Counting mode modulo (n + pulses_in chip rom ss m) (after_steps chip rom ss m).peripherals
    all_count [] m n c a = rw (add-zero n) c
    all_count (s ∷ ss) m n c a =
        rw (← add_assoc n (pulses_by chip rom s m (step_of chip rom s m).reply) (pulses_in chip rom ss (step_of chip rom s m).machine))
        (all_count ss (step_of chip rom s m).machine _ (counts s m n c a.0) a.1)

  counted : (ss : List Signals) (m : Machine) → is_on m.peripherals.registers TM TMEN ≡ true → m.peripherals.counter ≡ 0
      → AllLeaveTimer chip rom ss m → (after_steps chip rom ss m).peripherals.counter ≡ pulsed m.peripherals.modulo (pulses_in chip rom ss m)
  counted ss m on e a =
      (rw zero-add at (all_count _ _ on ss m 0 (record { same_mode = refl; same_modulo = refl; counter = e }) a)).counter

  -- the divider after a run, from a number x that it had before
  module _ (s : Signals) (x : ℕ) where
    abbrev Timed : Run → Type 0
    Timed r = r.machine.peripherals.divider ≡ (x + r.count.cycles) % 128

    or_on : (b : Bool) (sum : Count) (after : Machine) (rest : Run) → Timed (ended sum 0 after) → (b ≡ false → Timed rest)
        → Timed (cond b (ended sum 0 after) rest)
    or_on true sum after rest h k = h
    or_on false sum after rest h k = k refl

    by_reply : (reply : Reply) (count : Count) (m after : Machine) (rest : Run) → (reply ≡ in_standby → ⊥)
        → after.peripherals.divider ≡ (x + count.cycles + moved_by chip rom m reply) % 128
        → (is_standing after ≡ false → after.peripherals.divider ≡ (x + (plus count (cost_of (next_cycles rom m) reply)).cycles) % 128 → Timed rest)
        → Timed (after_step (plus count (cost_of (next_cycles rom m) reply)) after reply rest)
    by_reply done count m after rest n h k =
        let e : after.peripherals.divider ≡ (x + (count.cycles + next_cycles rom m)) % 128 = h ∙ ap (λ (c : ℕ). c % 128) (add_assoc x count.cycles (next_cycles rom m)) in
        or_on (is_standing after) (plus count (cost_of (next_cycles rom m) done)) after rest e (λ b. k b e)
    by_reply in_standby count m after rest n h k = absurd (n refl)
    by_reply (refused q) count m after rest n h k = h ∙ ap (λ (c : ℕ). c % 128) (add_assoc x count.cycles 0)

    run_timed : (left : ℕ) (count : Count) (m : Machine) → waits chip rom s m ≡ false → m.peripherals.divider ≡ (x + count.cycles) % 128
        → Timed (run_from chip rom s left count m)
    unfolding run_from
    run_timed zero count m w h = h
    run_timed (suc left) count m w h =
        by_reply (step_of chip rom s m).reply count m (step_of chip rom s m).machine _ (λ e. false≢true (sym w ∙ stays chip rom s m e))
        (turns s m (x + count.cycles) h)
        (λ b e. run_timed left _ (step_of chip rom s m).machine (rw b) e)

  run : (s : Signals) (m : Machine) (budget : ℕ) → m.peripherals.divider < 128 → waits chip rom s m ≡ false
      → (run_of chip rom s budget m).machine.peripherals.divider ≡ (m.peripherals.divider + (run_of chip rom s budget m).count.cycles) % 128
  unfolding run_of
  run s m budget l w =
      let h : m.peripherals.divider ≡ (m.peripherals.divider + 0) % 128 = omega (arith, l) in
      either (Timed s m.peripherals.divider) (all_in_range chip rom m s && budget_in_range budget) _ (ended none 1 m)
      (run_timed s m.peripherals.divider budget none m w h) h

  pub time_laws : TimeLaws chip rom
  time_laws = record { run = run; counted = counted; step = λ s m cycles leaves h. step s m cycles h leaves; counter = counter; divider = divider }

pub tick_phase : (cycles pulse : ℕ) (m : Machine) → TickPhase cycles pulse m
tick_phase cycles pulse m = record { cells = refl; control = refl }
