-- A step on a cleared ROM: it is not refused, but with 31 where the chip lacks a cell, and control stays on its path.
-- Assumes nothing.
use mathlib.Core.Path.{◌≡◌, ◌∙◌, ap, refl, subst, sym}
use mathlib.Core.Bool.{Bool, true, false, cond, false≢true}
use mathlib.Core.List.{List}
use mathlib.Core.Logic.{◌⊎◌, inl, inr}
use Prim.Native.Nat.{ℕ}
use borrow.Author.Tests.{lt-leb}
use lib.Dec.{eqb, leb}
use lib.ListN.{length}
use Rattle.isa.specs.Answers.{Decoding, is, refused as refused_word}
use Rattle.isa.specs.Decode.{decode_of}
use Rattle.laws.proofs.Booleans.{not_passed}
use Rattle.laws.proofs.Lists.{slice_index_inside}
use Rattle.memory.specs.Chip.{Chip, is_whole}
use Rattle.memory.specs.Registers.{ar_of}
use Rattle.machine.specs.Parts.{HALT, is_marked, cells_of, machine_of}
use Rattle.machine.specs.Ranges.{machine_in_range, all_in_range}
use Rattle.machine.specs.declared.Control.{Control}
use Rattle.machine.specs.Signals.{Signals}
use Rattle.machine.specs.declared.Machine.{Machine}
use Rattle.control.specs.Control.{with_standby}
use Rattle.control.specs.Flow.{flow_of, decoded_flow}
use Rattle.control.specs.declared.Flow.{Flow}
use Rattle.operations.specs.Writes.{holds_of}
use Rattle.cpu.specs.Execute.{data_of, lacks_of, written_of, set_of, transfer_by, execute_of}
use Rattle.cpu.specs.Reply.{refusal_of, Step, completed_step, refused_step}
use Rattle.cpu.specs.Step.{waits, ticked_by, woken, advance_of, step_of}
use Rattle.cpu.proofs.Lacking.{whole_lacks}
use Rattle.cpu.proofs.Phases.{stays, passed_over, executed}
use Rattle.cpu.proofs.RangeParts.{machine_parts}
use Rattle.cpu.proofs.Turns.{step_advances}
use Rattle.sheet.specs.Entry.{entry_at}
use Rattle.sheet.specs.declared.Entry.{Entry}
use Rattle.clearance.specs.Calls.{Tally, after_reply}
use Rattle.clearance.specs.Rules.{no_word, word_at, flow_at}
use Rattle.clearance.proofs.Paths.{OnPath, follows}
use Rattle.clearance.proofs.Ruled.{Cleared, Ruled, ruled}

-- not refused, or with 31 on a chip that lacks cells
abbrev pub MayMiss : Chip → ℕ → Type 0
MayMiss chip n = (n ≡ 0) ⊎ ((n ≡ 31) × (is_whole chip ≡ false))

module _ (chip : Chip) (rom sheet : List ℕ) (g : Cleared chip rom sheet) (signals : Signals) where
  abbrev Path : Control → Tally → Type 0
  Path c t = OnPath chip rom sheet c t

  -- a step that is not refused and keeps control on its path
  pub record Fair (skipped : Bool) (f : Flow) (t : Tally) (s : Step) : Type 0 where
    pub answered : MayMiss chip (refusal_of s.reply)
    pub path : Path s.machine.control (after_reply s.reply skipped f t)

  module _ (m : Machine) (t : Tally) (r : machine_in_range chip m ≡ true) (p : Path m.control t) where
    abbrev c : Control
    c = m.control

    abbrev e : Entry
    e = entry_at sheet c.pc

    abbrev Due : Bool → Type 0
    Due skipped = Fair skipped (flow_at rom c.pc) t (advance_of chip rom signals m)

    -- the same control without the standby mark
    wakes : Path (with_standby 0 c) t
    wakes = record { places = p.places; here = p.here; opened = p.opened; skipping = p.skipping; stacked = p.stacked }

    inside : leb (length rom) c.pc ≡ false
    inside = lt-leb (length rom) c.pc p.here.inside

    whether : {A : Type 0} (b : Bool) → (b ≡ false → A) → (b ≡ true → A) → A
    whether true on off = off refl
    whether false on off = on refl

    module _ (awake : waits chip rom signals m ≡ false) where
      over : is_marked c.skip ≡ true → Due true
      over s =
          subst (Fair true (flow_at rom c.pc) t) (passed_over chip rom signals m awake inside s _ _ refl refl)
          (record {
            answered = inl refl;
            path = record {
              places = p.places;
              here = p.skipping s;
              opened = p.opened;
              skipping = λ x. absurd (false≢true x);
              stacked = p.stacked;
            };
          })

      runs : is_marked c.skip ≡ false → (d : Decoding) → decode_of (word_at rom c.pc) ≡ d
          → Ruled chip rom sheet c.pc (decoded_flow d) e → Due false
      unfolding execute_of transfer_by
      runs plain (is i) w u =
          let ar : ℕ = ar_of (cells_of m) in
          let k = follows chip rom sheet g (with_standby 0 c) t wakes plain (flow_of i) (ap decoded_flow w) u (holds_of chip (data_of (woken m) signals) i) ar
          (g.table (cells_of m) (machine_parts chip m r).0) in
          let after : Machine = machine_of (written_of chip rom signals i (woken m)) (set_of chip rom signals i (woken m)) (transfer_by chip rom signals i (woken m)).control in
          let word = ap decode_of (slice_index_inside rom c.pc 0 no_word p.here.inside) ∙ w in
          let lacks : Bool = lacks_of chip rom signals i (woken m) in
          let on : lacks ≡ false → Due false = λ l.
          subst (Fair false (flow_at rom c.pc) t)
          (executed chip rom signals m awake inside plain i (completed_step after) word (rw (k.0.unrefused, k.1, l)))
          (record { answered = inl refl; path = rw w k.0.path }) in
          let off : lacks ≡ true → Due false = λ l.
          subst (Fair false (flow_at rom c.pc) t)
          (executed chip rom signals m awake inside plain i (refused_step 31 (woken m)) word (rw (k.0.unrefused, k.1, l)))
          (record {
            answered = inr (refl, not_passed (is_whole chip) (λ q. false≢true (sym (whole_lacks chip rom signals (woken m) i q) ∙ l)));
            path = p;
          }) in
          whether lacks on off
      runs plain (refused_word n) w u = absurd (false≢true u.third)

      either : (skip : Bool) → is_marked c.skip ≡ skip → Due skip
      either true s = over s
      either false s = runs s (decode_of (word_at rom c.pc)) refl (ruled chip rom sheet g.every c.pc c.levels p.here)

    -- a standing step leaves control, whichever mark is set
    stood : (b : Bool) → Path (cond b (ticked_by 1 signals.pulse m) m).control t
    stood true = p
    stood false = p

    advanced : (b : Bool) → waits chip rom signals m ≡ b → Due (is_marked c.skip)
    advanced true a = subst (Fair (is_marked c.skip) (flow_at rom c.pc) t) (stays chip rom signals m a) (record { answered = inl refl; path = stood (eqb c.standby HALT) })
    advanced false a = either a (is_marked c.skip) refl

    pub stepped : all_in_range chip rom m signals ≡ true → Fair (is_marked c.skip) (flow_at rom c.pc) t (step_of chip rom signals m)
    stepped a = rw (step_advances chip rom signals m a) (advanced (waits chip rom signals m) refl)
