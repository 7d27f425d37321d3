-- The records in turn.
-- Assumes nothing.
use mathlib.Core.Path.{◌≡◌, ◌∙◌, refl, sym, ap}
use mathlib.Core.List.{List, [], ◌∷◌, ◌++◌, append_assoc, append-nil}
use Prim.Native.Nat.{ℕ, zero, suc, ◌+◌, ◌*◌, ◌≤◌}
use native.Mathlib.Nat.{add-zero}
use native.Mathlib.Numerals.{add-one}
use native.Mathlib.Omega.{arith}
use lib.ListN.{get_or, length, drop}
use mathlib.Core.Bool.{true, false, true≢false, false≢true}
use borrow.Author.Tests.{eq-eqb, ne_eqb}
use Rattle.std.specs.Prelude.{Option, Some, None}
use Rattle.std.specs.Option.{is_some}
use Rattle.memory.specs.Chip.{upd17132}
use Rattle.cpu.specs.Cost.{none, plus, step_cost}
use Rattle.cpu.specs.Cycles.{next_cycles}
use Rattle.cpu.specs.Reply.{Reply, Step}
use Rattle.machine.specs.Parts.{reset_machine}
use Rattle.cpu.specs.Step.{step_of}
use Rattle.cpu.specs.declared.Count.{Count}
use Rattle.cpu.proofs.Costs.{cost_below, cost_cycles, cycles_few}
use Rattle.machine.specs.Signals.{signals}
use Rattle.machine.specs.declared.Input.{Input}
use Rattle.machine.specs.declared.Machine.{Machine}
use Rattle.machine.specs.declared.Refusal.{Refusal}
use Rattle.machine.specs.declared.Refusal.TheVariants.{OutOfRange, PastRom, NoInstruction, Unsupported, NoRegister, BadTarget, StackFull, StackEmpty, PastTable, MissingCell}
use Rattle.machine.specs.Refusals.{number_of}
use Rattle.station_file.specs.Station.{record_bytes}
use Rattle.transcript.specs.declared.Progress as code
use Rattle.transcript.specs.declared.Sink.{Sink}
use Rattle.transcript.specs.Printing.{Wrote, input_at, refusal_in, progress_in, Recorded, up_to, RecordedTo}
use Rattle.transcript.specs.Transcript.{Progress, Outcome, replied, record_of, followed, records_of, inputs_of, begun}
use Rattle.transcript.proofs.Bytes.{next_bytes}
use Rattle.transcript.proofs.Puts.{bounded, joined, nothing, reworded}

-- a refusal has a number that is not 0
refused_number : (r : Refusal) → number_of r ≡ 0 → ⊥
refused_number OutOfRange e = omega (arith, e)
refused_number PastRom e = omega (arith, e)
refused_number NoInstruction e = omega (arith, e)
refused_number Unsupported e = omega (arith, e)
refused_number NoRegister e = omega (arith, e)
refused_number BadTarget e = omega (arith, e)
refused_number StackFull e = omega (arith, e)
refused_number StackEmpty e = omega (arith, e)
refused_number PastTable e = omega (arith, e)
refused_number MissingCell e = omega (arith, e)

is_refused : (o : Option Refusal) → true ≡ is_some o → refusal_in o ≡ 0 → ⊥
is_refused None h = absurd (true≢false h)
is_refused (Some r) h = refused_number r

goes_so : (o : Option Refusal) → false ≡ is_some o → refusal_in o ≡ 0
goes_so None h = refl
goes_so (Some r) h = absurd (false≢true h)

one_more_input : (k : ℕ) (xs : List ℕ) → inputs_of (suc k) xs ≡ inputs_of k xs ++ (input_at k xs ∷ [])
one_more_input zero xs = refl
one_more_input (suc k) xs =
    ap (λ (is : List Input). input_at 0 xs ∷ is)
    (one_more_input k (drop record_bytes xs) ∙ ap (λ (i : Input). inputs_of k (drop record_bytes xs) ++ (i ∷ [])) (next_bytes k xs))

input_count_lem : (k : ℕ) (xs : List ℕ) → length (inputs_of k xs) ≡ k
input_count_lem zero xs = refl
input_count_lem (suc k) xs = ap suc (input_count_lem k (drop record_bytes xs))

module _ (rom : List ℕ) where
  last_input : (is : List Input) (i : Input) (n : ℕ) (p : Progress)
      → records_of rom n (is ++ (i ∷ [])) p ≡ followed (records_of rom n is p) (record_of rom (n + length is) i (records_of rom n is p).progress)
  last_input [] i n p = rw (add-zero n, append-nil)
  last_input (j ∷ is) i n p =
      let e : n + suc (length is) ≡ suc n + length is = omega arith in
      let first = record_of rom n j p in
      rw e (ap (followed first) (last_input is i (suc n) first.progress) ∙ rw (append_assoc first.text) refl)

  pub one_more : (xs : List ℕ) (k : ℕ) → up_to rom xs (k + 1) ≡ followed (up_to rom xs k) (record_of rom (k + 1) (input_at k xs) (up_to rom xs k).progress)
  one_more xs k =
      let t : 1 + length (inputs_of k xs) ≡ k + 1 = omega (arith, input_count_lem k xs) in
      ap (λ (m : ℕ). up_to rom xs m) (add-one k) ∙ ap (λ (is : List Input). records_of rom 1 is begun) (one_more_input k xs)
      ∙ last_input (inputs_of k xs) (input_at k xs) 1 begun
      ∙ ap (λ (m : ℕ). followed (up_to rom xs k) (record_of rom m (input_at k xs) (up_to rom xs k).progress)) t

  module _ (n : ℕ) (i : Input) (p : code.Progress) where
    abbrev fresh : Outcome
    fresh = record_of rom n i (progress_in p)

    -- a record that steps
    pub steps_so : (r : Reply) (after : Machine) → false ≡ is_some p.refusal → record { reply = r; machine = after } ≡ step_of upd17132 rom (signals i 0) p.machine
        → fresh ≡ replied rom n (progress_in p) (plus p.count (step_cost upd17132 rom (signals i 0) p.machine)) r after
    unfolding record_of
    steps_so r after z e = rw (eq-eqb (refusal_in p.refusal) 0 (goes_so p.refusal z)) (ap (λ (s : Step). replied rom n (progress_in p) (plus p.count (step_cost upd17132 rom (signals i 0) p.machine)) s.reply s.machine) (sym e))

    -- what was counted and the step's cost: the count of the definition, and little more than before
    pub total_is : (cost sum : Count) → cost ≡ step_cost upd17132 rom (signals i 0) p.machine → sum ≡ plus p.count cost
        → sum ≡ plus p.count (step_cost upd17132 rom (signals i 0) p.machine)
    total_is cost sum e f = f ∙ ap (plus p.count) e

    pub small : (cost : Count) → cost ≡ step_cost upd17132 rom (signals i 0) p.machine → (cost.steps ≤ 1) × (cost.cycles ≤ 2)
    small cost e =
        let m = p.machine in
        let r = (step_of upd17132 rom (signals i 0) m).reply in
        rw e (cost_below r (next_cycles rom m), cost_cycles r (next_cycles rom m) (cycles_few (get_or rom m.control.pc 0) m.control.skip))

    abbrev Few : Count → Type 0
    Few sum = (sum.steps ≤ p.count.steps + 1) × (sum.cycles ≤ p.count.cycles + 2)

    pub few : (cost sum : Count) → cost ≡ step_cost upd17132 rom (signals i 0) p.machine → sum ≡ plus p.count cost → Few sum
    few cost sum e f = rw f (omega (arith, (small cost e).0), omega (arith, (small cost e).1))

    -- the promise, by what a record comes to
    pub recorded : {x y : Sink} (r : code.Progress) (o : Outcome) → fresh ≡ o → progress_in r ≡ o.progress → Wrote 23 o.text x y
        → Few r.count → Recorded rom n i p x y r
    recorded r o e s w f = record { same = rw e s; wrote = reworded (ap (λ (q : Outcome). q.text) (sym e)) w; counted = f.0; timed = f.1 }

    pub refused_before : {x : Sink} → true ≡ is_some p.refusal → Recorded rom n i p x x p
    unfolding record_of
    refused_before h =
        recorded p (record { progress = progress_in p; text = [] }) (rw (ne_eqb (refusal_in p.refusal) 0 (is_refused p.refusal h))) refl nothing
        (omega arith, omega arith)

  -- one record more
  module _ (xs : List ℕ) (k : ℕ) {x y z : Sink} (p r : code.Progress) where
    pub goes_on : RecordedTo rom xs k x y p → Recorded rom (k + 1) (input_at k xs) p y z r → RecordedTo rom xs (k + 1) x z r
    goes_on f g =
        let e = one_more xs k ∙ ap (λ (q : Progress). followed (up_to rom xs k) (record_of rom (k + 1) (input_at k xs) q)) (sym f.same) in
        record {
          same = rw e g.same;
          wrote = reworded (ap (λ (o : Outcome). o.text) (sym e)) (bounded (23 * (k + 1)) (omega arith) (joined f.wrote g.wrote));
          counted = omega (arith, f.counted, g.counted);
          timed = omega (arith, f.timed, g.timed);
        }

  pub begins : (xs : List ℕ) {x : Sink} → RecordedTo rom xs 0 x x (record { machine = reset_machine; count = none; refusal = None })
  begins xs = record { same = refl; wrote = nothing; counted = omega arith; timed = omega arith }
