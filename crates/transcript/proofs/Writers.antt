-- The step that wrote a cell last, with one record more.
-- Assumes nothing.
use mathlib.Core.Path.{◌≡◌, ◌∙◌, ap, refl, sym}
use mathlib.Core.Bool.{Bool, true, false, not, ◌&&◌, cond}
use mathlib.Core.List.{List}
use Prim.Native.Nat.{ℕ, suc, ◌+◌}
use native.Mathlib.Numerals.{add-one}
use native.Mathlib.Omega.{arith}
use borrow.Author.Tests.{eq-eqb, ne_eqb}
use lib.Dec.{eqb}
use lib.ListN.{get_or}
use Rattle.isa.specs.Decode.{decode_of}
use Rattle.laws.proofs.Booleans.{both}
use Rattle.machine.specs.Parts.{cells_of, is_marked}
use Rattle.machine.specs.declared.Machine.{Machine}
use Rattle.cpu.specs.Cost.{plus, cost_of}
use Rattle.cpu.specs.Cycles.{next_cycles}
use Rattle.cpu.specs.Reply.{Reply, done, in_standby, refused}
use Rattle.cpu.specs.declared.Count.{Count}
use Rattle.std.specs.Prelude.{Option, Some}
use Rattle.transcript.specs.declared.Progress as code
use Rattle.transcript.specs.declared.Sink.{Sink}
use Rattle.transcript.specs.declared.Writer as code_writer
use Rattle.transcript.specs.Finding.{found_text}
use Rattle.transcript.specs.Printing.{progress_in, Recorded, RecordedTo, input_at, up_to}
use Rattle.transcript.specs.Transcript.{Outcome, Progress, record_of, replied}
use Rattle.transcript.specs.Why.{is_done, written_by, machine_at, signals_of, step_at, is_reached, wrote, last_writer, answer_text, written_line}
use Rattle.transcript.proofs.Turns.{one_more}

module _ (rom inputs : List ℕ) (k : ℕ) where
  abbrev before : Progress
  before = (up_to rom inputs k).progress

  replied_machine : (n : ℕ) (p : Progress) (count : Count) (r : Reply) (after : Machine) → (replied rom n p count r after).progress.machine ≡ after
  replied_machine n p count done after = refl
  replied_machine n p count in_standby after = refl
  replied_machine n p count (refused m) after = refl

  next : machine_at rom inputs (suc k) ≡ (record_of rom (k + 1) (input_at k inputs) before).progress.machine
  next = ap (λ (m : ℕ). machine_at rom inputs m) (sym (add-one k)) ∙ ap (λ (o : Outcome). o.progress.machine) (one_more rom inputs k)

  -- where the record is reached its step is taken, and else the machine stays
  pub goes : is_reached rom inputs k ≡ true → machine_at rom inputs (suc k) ≡ (step_at rom inputs k).machine
  unfolding record_of
  goes e = next ∙ rw e (replied_machine (k + 1) before _ (step_at rom inputs k).reply (step_at rom inputs k).machine)

  pub stops : is_reached rom inputs k ≡ false → machine_at rom inputs (suc k) ≡ machine_at rom inputs k
  unfolding record_of
  stops e = next ∙ rw e

  -- a step is completed where the count has moved
  moved : (n c : ℕ) (p : Progress) (r : Reply) (after : Machine)
      → not (eqb (replied rom n p (plus p.count (cost_of c r)) r after).progress.count.steps p.count.steps) ≡ is_done r
  moved n c p done after = let d : p.count.steps + 1 ≡ p.count.steps → ⊥ = (λ e. omega (arith, e)) in rw (ne_eqb _ _ d)
  moved n c p in_standby after = let e : p.count.steps + 0 ≡ p.count.steps = omega arith in rw (eq-eqb _ _ e)
  moved n c p (refused m) after = let e : p.count.steps + 0 ≡ p.count.steps = omega arith in rw (eq-eqb _ _ e)

  completed : not (eqb (record_of rom (k + 1) (input_at k inputs) before).progress.count.steps before.count.steps)
      ≡ (is_reached rom inputs k && is_done (step_at rom inputs k).reply)
  unfolding record_of
  completed = by (is_reached rom inputs k) refl
    where
      by : (b : Bool) → is_reached rom inputs k ≡ b
          → not (eqb (record_of rom (k + 1) (input_at k inputs) before).progress.count.steps before.count.steps)
          ≡ (is_reached rom inputs k && is_done (step_at rom inputs k).reply)
      by true e = rw e (moved (k + 1) (next_cycles rom (machine_at rom inputs k)) before (step_at rom inputs k).reply (step_at rom inputs k).machine)
      by false e = rw (e, eq-eqb before.count.steps before.count.steps refl)

and_assoc : (a b c : Bool) → ((a && b) && c) ≡ (a && (b && c))
and_assoc true b c = refl
and_assoc false b c = refl

module _ (rom inputs : List ℕ) (cell k : ℕ) where
  -- whether the step at the record writes, of a machine before it
  abbrev rest : Machine → Bool
  rest m = not (is_marked m.control.skip) && written_by rom (signals_of rom inputs k) m cell (decode_of (get_or rom m.control.pc 0))

  abbrev told : ℕ → Machine → Machine → code_writer.Writer
  told number m after =
      record { number = number; pc = m.control.pc; word = get_or rom m.control.pc 0; nibble = get_or (cells_of after) cell 0 }

  abbrev said : ℕ → List ℕ
  said w = answer_text rom inputs cell w

  -- by what is known of the definition alone
  by_steps : (m after : Machine) (gone : Bool) → m ≡ machine_at rom inputs k → after ≡ machine_at rom inputs (suc k)
      → gone ≡ (is_reached rom inputs k && is_done (step_at rom inputs k).reply)
      → (found : Option code_writer.Writer) → found_text found ≡ said (last_writer rom inputs cell k)
      → found_text (cond (gone && rest m) (Some (told (k + 1) m after)) found) ≡ said (last_writer rom inputs cell (k + 1))
  unfolding last_writer wrote
  by_steps m after gone e f g found h = rw (add-one k, e, f, g, and_assoc (is_reached rom inputs k) (is_done (step_at rom inputs k).reply) (rest (machine_at rom inputs k))) (by (wrote rom inputs cell k) refl)
    where
      by : (b : Bool) → wrote rom inputs cell k ≡ b
          → found_text (cond (wrote rom inputs cell k) (Some (told (suc k) (machine_at rom inputs k) (machine_at rom inputs (suc k)))) found)
          ≡ said (cond (wrote rom inputs cell k) (suc k) (last_writer rom inputs cell k))
      by true w =
          let m = machine_at rom inputs k in
          rw w
          (ap (λ (x : Machine). written_line (suc k) m.control.pc (get_or rom m.control.pc 0) (get_or (cells_of x) cell 0))
          (goes rom inputs k (both (is_reached rom inputs k) _ w).0))
      by false w = rw w h

  pub one_newer : {x y z : Sink} (p r : code.Progress) → RecordedTo rom inputs k x y p → Recorded rom (k + 1) (input_at k inputs) p y z r
      → (found : Option code_writer.Writer) → found_text found ≡ said (last_writer rom inputs cell k)
      → found_text (cond (not (eqb r.count.steps p.count.steps) && rest p.machine) (Some (told (k + 1) p.machine r.machine)) found)
      ≡ said (last_writer rom inputs cell (k + 1))
  one_newer p r f g found h =
      let same : progress_in r ≡ (record_of rom (k + 1) (input_at k inputs) (up_to rom inputs k).progress).progress
      = g.same ∙ ap (λ (q : Progress). (record_of rom (k + 1) (input_at k inputs) q).progress) f.same in
      by_steps p.machine r.machine _ (ap (λ (q : Progress). q.machine) f.same) (ap (λ (q : Progress). q.machine) same ∙ sym (next rom inputs k))
      (ap (λ (q : Progress). not (eqb q.count.steps p.count.steps)) same
      ∙ ap (λ (q : Progress). not (eqb (record_of rom (k + 1) (input_at k inputs) (up_to rom inputs k).progress).progress.count.steps q.count.steps)) f.same
      ∙ completed rom inputs k)
      found h
