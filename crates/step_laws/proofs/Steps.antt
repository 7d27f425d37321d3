-- A refused step leaves the record, a standing one all but the timer, a skipped one the cells, and any other the cells that it does
-- not write.
-- Assumes nothing.
use mathlib.Core.Path.{◌≡◌, ◌∙◌, ap, refl, sym}
use mathlib.Core.Bool.{Bool, true, false, cond, false≢true}
use mathlib.Core.List.{List}
use Prim.Native.Nat.{ℕ}
use native.Mathlib.Omega.{arith}
use lib.Dec.{eqb, leb}
use lib.ListN.{get_or, length}
use Rattle.isa.specs.Answers.{Decoding, is, refused as refused_word}
use Rattle.isa.specs.Decode.{decode_of}
use Rattle.isa.specs.declared.Instruction.{Instruction}
use Rattle.laws.proofs.Booleans.{either}
use Rattle.memory.specs.Chip.{Chip}
use Rattle.memory.specs.Registers.{ar_of}
use Rattle.memory.specs.Write.{touches}
use Rattle.memory.proofs.Writes.{untouched}
use Rattle.machine.specs.Parts.{HALT, STOP, is_marked, cells_of, machine_of}
use Rattle.machine.specs.Ranges.{all_in_range}
use Rattle.machine.specs.Signals.{Signals}
use Rattle.machine.specs.declared.Machine.{Machine}
use Rattle.control.specs.Flow.{flow_of}
use Rattle.peripherals.specs.Timer.{tick_of}
use Rattle.cpu.specs.Cycles.{next_cycles}
use Rattle.cpu.specs.Execute.{lacks_of, past_table, transfer_by, written_of, set_of, execute_of}
use Rattle.cpu.specs.Reply.{done, in_standby, refused, Step, completed_step, standing_step, refused_step}
use Rattle.cpu.specs.Step.{waits, ticked_by, stood_by, woken, unless_refused, decoded_of, pass_over, fetch_of, advance_of, step_of}
use Rattle.cpu.proofs.Costs.{skipped_cycles}
use Rattle.step_laws.specs.StepLaws.{writes_by, StepLaws}

-- the answers differ
pub standby_done : in_standby ≡ done → ⊥
standby_done e = let z : ◌≡◌ {A = ℕ} 0 1 = cc in omega arith

done_refused : (n : ℕ) → done ≡ refused n → ⊥
done_refused n e = let z : ◌≡◌ {A = ℕ} 0 1 = cc in omega arith

standby_refused : (n : ℕ) → in_standby ≡ refused n → ⊥
standby_refused n e = let z : ◌≡◌ {A = ℕ} 0 1 = cc in omega arith

-- what holds of the one that a test picks, where the test is known
tested : {A : Type 0} (P : A → Type 0) (b : Bool) (x y : A) → (b ≡ true → P x) → (b ≡ false → P y) → P (cond b x y)
tested P true x y p q = p refl
tested P false x y p q = q refl

module _ (chip : Chip) (rom : List ℕ) (signals : Signals) where
  abbrev step : Machine → Step
  step m = step_of chip rom signals m

  -- the ways that an instruction ends
  settled : (P : Step → Type 0) (i : Instruction) (m : Machine) → ((n : ℕ) → P (refused_step n m))
      → P (completed_step (machine_of (written_of chip rom signals i m) (set_of chip rom signals i m) (transfer_by chip rom signals i m).control))
      → P (execute_of chip rom signals i m)
  unfolding execute_of
  settled P i m off on =
      let t = transfer_by chip rom signals i m in
      either P (eqb t.refusal 0) _ (refused_step t.refusal m)
      (either P (past_table rom (ar_of (cells_of m)) (flow_of i)) (refused_step 8 m) _ (off 8)
      (either P (lacks_of chip rom signals i m) (refused_step 31 m) _ (off 31) on))
      (off t.refusal)

  module _ (m : Machine) where
    -- the timer's cycles come last
    abbrev ticked : Machine → Machine
    ticked after = ticked_by (next_cycles rom m) signals.pulse after

    -- the record after a word that is passed over, and after an instruction
    abbrev pub passed : Machine
    passed = ticked (pass_over chip rom signals (woken m)).machine

    abbrev pub executed : Instruction → Machine
    executed i =
        ticked (machine_of (written_of chip rom signals i (woken m)) (set_of chip rom signals i (woken m)) (transfer_by chip rom signals i (woken m)).control)

    abbrev word : Decoding
    word = decode_of (get_or rom m.control.pc 0)

    module _ (P : Step → Type 0) (off : (n : ℕ) → P (refused_step n m)) where
      -- a step from its fetch
      abbrev Q : Step → Type 0
      Q s = P (unless_refused m (ticked s.machine) s.reply)

      by_word : (d : Decoding) → word ≡ d → ((i : Instruction) → word ≡ is i → P (completed_step (executed i))) → Q (decoded_of chip rom signals (woken m) d)
      by_word (is i) w on = settled Q i (woken m) off (on i w)
      by_word (refused_word n) w on = off n

      -- the ways that a step ends
      pub stepped : (waits chip rom signals m ≡ true → P (standing_step (stood_by signals.pulse m)))
          → (is_marked m.control.skip ≡ true → P (completed_step passed))
          → (is_marked m.control.skip ≡ false → (i : Instruction) → word ≡ is i → P (completed_step (executed i)))
          → P (step m)
      unfolding step_of advance_of fetch_of
      stepped stand over on =
          either P (all_in_range chip rom m signals) (advance_of chip rom signals m) (refused_step 1 m)
          (tested P (waits chip rom signals m) (standing_step (stood_by signals.pulse m)) _ stand (λ w.
          either Q (leb (length rom) m.control.pc) (refused_step 2 (woken m)) _ (off 2)
          (tested Q (is_marked m.control.skip) (pass_over chip rom signals (woken m)) _ over (λ s. by_word word refl (on s)))))
          (off 1)

    pub kept : (n : ℕ) → (step m).reply ≡ refused n → (step m).machine ≡ m
    kept n =
        stepped (λ (s : Step). s.reply ≡ refused n → s.machine ≡ m) (λ k e. refl) (λ w e. absurd (standby_refused n e))
        (λ s e. absurd (done_refused n e)) (λ s i w e. absurd (done_refused n e))

    -- a step answers "standing" where the machine waits
    pub stays : (step m).reply ≡ in_standby → waits chip rom signals m ≡ true
    stays =
        stepped (λ (s : Step). s.reply ≡ in_standby → waits chip rom signals m ≡ true) (λ n e. absurd (standby_refused n (sym e)))
        (λ w e. w) (λ s e. absurd (standby_done (sym e))) (λ s i w e. absurd (standby_done (sym e)))

    stood : (step m).reply ≡ in_standby → (step m).machine ≡ stood_by signals.pulse m
    stood =
        stepped (λ (s : Step). s.reply ≡ in_standby → s.machine ≡ stood_by signals.pulse m) (λ n e. absurd (standby_refused n (sym e)))
        (λ w e. refl) (λ s e. absurd (standby_done (sym e))) (λ s i w e. absurd (standby_done (sym e)))

    stopped : (step m).reply ≡ in_standby → m.control.standby ≡ STOP → (step m).machine ≡ m
    stopped e s = stood e ∙ ap (λ (mark : ℕ). cond (eqb mark HALT) (ticked_by 1 signals.pulse m) m) s

    halted : (step m).reply ≡ in_standby → m.control.standby ≡ HALT → (step m).machine ≡ ticked_by 1 signals.pulse m
    halted e s = stood e ∙ ap (λ (mark : ℕ). cond (eqb mark HALT) (ticked_by 1 signals.pulse m) m) s

    pub stood_cells : cells_of (stood_by signals.pulse m) ≡ cells_of m
    stood_cells = either (λ (x : Machine). cells_of x ≡ cells_of m) (eqb m.control.standby HALT) (ticked_by 1 signals.pulse m) m refl refl

    skipped : is_marked m.control.skip ≡ true → cells_of (step m).machine ≡ cells_of m
    skipped e =
        stepped (λ (s : Step). cells_of s.machine ≡ cells_of m) (λ n. refl) (λ w. stood_cells) (λ s. refl)
        (λ s i w. absurd (false≢true (sym s ∙ e)))

    same : (i j : Instruction) → word ≡ is i → word ≡ is j → i ≡ j
    same i j e f = cc

    frame : (i : Instruction) → word ≡ is i → (k : ℕ) → touches (writes_by chip rom signals i m) k ≡ false
        → get_or (cells_of (step m).machine) k 0 ≡ get_or (cells_of m) k 0
    unfolding written_of
    frame i e k u =
        stepped (λ (s : Step). get_or (cells_of s.machine) k 0 ≡ get_or (cells_of m) k 0) (λ n. refl)
        (λ w. ap (λ (cells : List ℕ). get_or cells k 0) stood_cells) (λ s. refl)
        (λ s j w. rw (same j i w e) (untouched chip (writes_by chip rom signals i m) (cells_of m) k u))

    timed : (step m).reply ≡ done → is_marked m.control.skip ≡ true
        → (step m).machine.peripherals ≡ tick_of m.peripherals 1 signals.pulse
    timed d e =
        stepped (λ (s : Step). s.reply ≡ done → s.machine.peripherals ≡ tick_of m.peripherals 1 signals.pulse)
        (λ n r. absurd (done_refused n (sym r))) (λ w r. absurd (standby_done r))
        (λ s r. ap (λ (n : ℕ). tick_of m.peripherals n signals.pulse) (sym (skipped_cycles (get_or rom m.control.pc 0) m.control.skip e)))
        (λ s i w. absurd (false≢true (sym s ∙ e)))
        d

    set : (i : Instruction) → word ≡ is i → (step m).reply ≡ done → is_marked m.control.skip ≡ false
        → (step m).machine.peripherals ≡ tick_of (set_of chip rom signals i m) (next_cycles rom m) signals.pulse
    set i e d u =
        stepped (λ (s : Step). s.reply ≡ done → s.machine.peripherals ≡ tick_of (set_of chip rom signals i m) (next_cycles rom m) signals.pulse)
        (λ n r. absurd (done_refused n (sym r))) (λ w r. absurd (standby_done r))
        (λ s r. absurd (false≢true (sym u ∙ s))) (λ s j w r. rw (same j i w e))
        d

pub step_laws : (chip : Chip) (rom : List ℕ) (signals : Signals) (m : Machine) → StepLaws chip rom signals m
step_laws chip rom signals m = record {
  kept = kept chip rom signals m;
  stopped = stopped chip rom signals m;
  halted = halted chip rom signals m;
  skipped = skipped chip rom signals m;
  frame = frame chip rom signals m;
  timed = timed chip rom signals m;
  set = set chip rom signals m;
}
