-- The last record whose step wrote a cell, and what the cell then holds.
-- Assumes nothing.
use mathlib.Core.Path.{◌≡◌, ◌∙◌, ap, refl, sym}
use mathlib.Core.Bool.{Bool, true, false, not, ◌&&◌, false≢true}
use mathlib.Core.List.{List, [], ◌∷◌, ◌++◌, append_assoc}
use Prim.Native.Nat.{ℕ, zero, suc, ◌+◌, ◌-◌, ◌/◌, ◌%◌, ◌<◌, ◌≤◌}
use native.Mathlib.Omega.{arith}
use borrow.Author.Tests.{eqb-true, eqb-false, ltb-true, ltb-false, not-true}
use lib.Dec.{eqb, ltb}
use lib.ListN.{get_or}
use Rattle.text.specs.Hex.{codes, hex_digit_of}
use Rattle.isa.specs.Decode.{decode_of}
use Rattle.laws.proofs.Booleans.{both}
use Rattle.laws.proofs.Every.{every_at_lem, holds}
use Rattle.memory.specs.Chip.{upd17132}
use Rattle.memory.proofs.Writes.{untouched as unwritten}
use Rattle.machine.specs.Parts.{cells_of, is_marked, reset_machine}
use Rattle.machine.specs.Signals.{Signals}
use Rattle.machine.specs.declared.Machine.{Machine}
use Rattle.cpu.specs.Execute.{written_of}
use Rattle.cpu.specs.Reply.{Reply, done, in_standby, refused, Step}
use Rattle.cpu.specs.Step.{step_of}
use Rattle.step_laws.proofs.Steps.{stepped, stood_cells}
use Rattle.step_laws.specs.StepLaws.{writes_by}
use Rattle.transcript.specs.Text.{newline, decimal}
use Rattle.transcript.specs.Why.{never_text, is_done, written_by, step_writes, machine_at, signals_of, step_at, is_reached, wrote, last_writer, answer_text, writer_line}
use Rattle.transcript.proofs.Decimals.{one_digit, last_digit}
use Rattle.transcript.proofs.Writers.{goes, stops}
use Rattle.why_laws.specs.WhyLaws.{IsLast, NoneDid, WhyLaws, held_at}

-- no digit is the first letter of NEVER
other : ℕ → Bool
other k = not (eqb (get_or codes k 0) 0x4E)

digit_other : (n : ℕ) → hex_digit_of n ≡ 0x4E → ⊥
unfolding other codes hex_digit_of
digit_other n e =
    let o : not (eqb (get_or codes (n % 16) 0) 0x4E) ≡ true = holds (every_at_lem other 16 tt (n % 16) (omega arith)) in
    eqb-false _ _ (not-true _ o) e

abbrev first : List ℕ → ℕ
first xs = get_or xs 0 0

number_other : (m n : ℕ) → n < m → (rest xs : List ℕ) → decimal n ++ rest ≡ 0x4E ∷ xs → ⊥
number_other zero n h rest xs e = absurd (omega arith)
number_other (suc m) n h rest xs e = by (λ k l r f. number_other m k l r xs f) (ltb n 10) refl
  where
    by : ((k : ℕ) → k < m → (r : List ℕ) → decimal k ++ r ≡ 0x4E ∷ xs → ⊥) → (b : Bool) → ltb n 10 ≡ b → ⊥
    by again true l = digit_other n (ap first (rw (one_digit n (ltb-true n 10 l)) at e))
    by again false l =
        let many = ltb-false n 10 l in
        again (n / 10) (omega arith) (hex_digit_of (n % 10) ∷ rest)
        (sym (append_assoc (decimal (n / 10)) (hex_digit_of (n % 10) ∷ []) rest) ∙ ap (λ (l : List ℕ). l ++ rest) (sym (last_digit n many)) ∙ e)

line_other : (rom inputs : List ℕ) (cell k : ℕ) → writer_line rom inputs cell k ≡ never_text ++ newline → ⊥
line_other rom inputs cell k e = number_other (suc (suc k)) (suc k) (omega arith) _ _ e

-- a step that does not write a cell leaves it
module _ (rom : List ℕ) (s : Signals) (m : Machine) (cell : ℕ) where
  abbrev rest : Bool
  rest = not (is_marked m.control.skip) && written_by rom s m cell (decode_of (get_or rom m.control.pc 0))

  abbrev held : Machine → ℕ
  held x = get_or (cells_of x) cell 0

  leaves : step_writes rom s m cell ≡ false → held (step_of upd17132 rom s m).machine ≡ held m
  unfolding written_of
  leaves =
      stepped upd17132 rom s m (λ (x : Step). (is_done x.reply && rest) ≡ false → held x.machine ≡ held m)
      (λ n e. refl)
      (λ w e. ap (λ (cells : List ℕ). get_or cells cell 0) (stood_cells upd17132 rom s m))
      (λ over e. refl)
      (λ plain i w e. unwritten upd17132 (writes_by upd17132 rom s i m) (cells_of m) cell (rw (plain, w) at e))

module _ (rom inputs : List ℕ) (cell : ℕ) where
  still : (k : ℕ) → wrote rom inputs cell k ≡ false → held_at rom inputs cell (suc k) ≡ held_at rom inputs cell k
  unfolding wrote
  still k e = by (is_reached rom inputs k) refl
    where
      by : (b : Bool) → is_reached rom inputs k ≡ b → held_at rom inputs cell (suc k) ≡ held_at rom inputs cell k
      by true r = ap (λ (m : Machine). get_or (cells_of m) cell 0) (goes rom inputs k r) ∙ leaves rom (signals_of rom inputs k) (machine_at rom inputs k) cell (rw r at e)
      by false r = ap (λ (m : Machine). get_or (cells_of m) cell 0) (stops rom inputs k r)

  -- over several records
  stays : (from n : ℕ) → ((j : ℕ) → from ≤ j → j < from + n → wrote rom inputs cell j ≡ false) → held_at rom inputs cell (from + n) ≡ held_at rom inputs cell from
  stays from zero h = let e : from + 0 ≡ from = omega arith in ap (held_at rom inputs cell) e
  stays from (suc n) h =
      let e : from + suc n ≡ suc (from + n) = omega arith in
      ap (held_at rom inputs cell) e ∙ still (from + n) (h (from + n) (omega arith) (omega arith)) ∙ stays from n (λ j a b. h j a (omega arith))

  -- the search from the last record down finds the last
  abbrev Last : ℕ → ℕ → Type 0
  Last n k = IsLast rom inputs cell n k

  abbrev writer : ℕ → ℕ
  writer n = last_writer rom inputs cell n

  apart : (k : ℕ) → wrote rom inputs cell k ≡ true → wrote rom inputs cell k ≡ false → ⊥
  apart k t f = false≢true (sym f ∙ t)

  wider : (n k : ℕ) → wrote rom inputs cell n ≡ false → Last n k → Last (suc n) k
  wider n k f l = record {
    among = omega (arith, l.among);
    did = l.did;
    later = λ j a b. at_end j a (eqb j n) refl (omega arith);
  }
    where
      at_end : (j : ℕ) → k < j → (b : Bool) → eqb j n ≡ b → j ≤ n → wrote rom inputs cell j ≡ false
      at_end j a true e h = rw (eqb-true j n e) f
      at_end j a false e h = let o : j ≡ n → ⊥ = eqb-false j n e in l.later j a (omega arith)

  found : (n k : ℕ) → writer n ≡ suc k → Last n k
  unfolding last_writer
  found zero k e = absurd (omega (arith, e))
  found (suc n) k e = by (λ f. found n k f) (wrote rom inputs cell n) refl
    where
      by : (writer n ≡ suc k → Last n k) → (b : Bool) → wrote rom inputs cell n ≡ b → Last (suc n) k
      by again true w =
          let same : n ≡ k = (let f : suc n ≡ suc k = rw w at e in omega (arith, f)) in
          rw (← same) record { among = omega arith; did = w; later = λ j a b. absurd (omega arith) }
      by again false w = wider n k w (again (rw w at e))

  not_found : (n : ℕ) → writer n ≡ 0 → NoneDid rom inputs cell n
  unfolding last_writer
  not_found zero e k h = absurd (omega arith)
  not_found (suc n) e k h = by (λ f. not_found n f) (wrote rom inputs cell n) refl
    where
      at_end : NoneDid rom inputs cell n → wrote rom inputs cell n ≡ false → (b : Bool) → eqb k n ≡ b → wrote rom inputs cell k ≡ false
      at_end none w true e = rw (eqb-true k n e) w
      at_end none w false e = let o : k ≡ n → ⊥ = eqb-false k n e in none k (omega arith)

      by : (writer n ≡ 0 → NoneDid rom inputs cell n) → (b : Bool) → wrote rom inputs cell n ≡ b → wrote rom inputs cell k ≡ false
      by again true w = absurd (let f : suc n ≡ 0 = rw w at e in omega (arith, f))
      by again false w = at_end (again (rw w at e)) w (eqb k n) refl

  -- there is one last at most
  only : (n j k : ℕ) → Last n j → Last n k → j ≡ k
  only n j k a b = by (eqb j k) refl (ltb j k) refl
    where
      by : (same : Bool) → eqb j k ≡ same → (less : Bool) → ltb j k ≡ less → j ≡ k
      by true e less f = eqb-true j k e
      by false e true f = absurd (apart k b.did (a.later k (ltb-true j k f) b.among))
      by false e false f =
          let o : j ≡ k → ⊥ = eqb-false j k e in
          let more : k < j = omega (arith, ltb-false j k f) in
          absurd (apart j a.did (b.later j more a.among))

  is_last : (n k : ℕ) → Last n k → writer n ≡ suc k
  is_last n k l = by (writer n) refl
    where
      by : (w : ℕ) → writer n ≡ w → writer n ≡ suc k
      by zero e = absurd (apart k l.did (not_found n e k l.among))
      by (suc j) e = e ∙ ap suc (only n j k (found n j e) l)

  none_is : (n : ℕ) → NoneDid rom inputs cell n → writer n ≡ 0
  none_is n none = by (writer n) refl
    where
      by : (w : ℕ) → writer n ≡ w → writer n ≡ 0
      by zero e = e
      by (suc j) e = absurd (let l = found n j e in apart j l.did (none j l.among))

  abbrev said : ℕ → List ℕ
  said w = answer_text rom inputs cell w

  none_said : (n : ℕ) → said (writer n) ≡ never_text ++ newline → NoneDid rom inputs cell n
  none_said n e = by (writer n) refl
    where
      by : (w : ℕ) → writer n ≡ w → NoneDid rom inputs cell n
      by zero f = not_found n f
      by (suc j) f = absurd (line_other rom inputs cell j (rw f at e))

  done_is : (r : Reply) → is_done r ≡ true → r ≡ done
  done_is done e = refl
  done_is in_standby e = absurd (false≢true e)
  done_is (refused n) e = absurd (false≢true e)

  ran : (k : ℕ) → wrote rom inputs cell k ≡ true → (is_reached rom inputs k ≡ true) × ((step_at rom inputs k).reply ≡ done)
  unfolding wrote
  ran k e =
      let a = both (is_reached rom inputs k) _ e in
      (a.0, done_is (step_at rom inputs k).reply (both (is_done (step_at rom inputs k).reply) _ a.1).0)

  -- after the last the cell stays
  kept : (n k : ℕ) → Last n k → (j : ℕ) → k < j → j ≤ n → held_at rom inputs cell j ≡ get_or (cells_of (step_at rom inputs k).machine) cell 0
  kept n k l j a b =
      let e : suc k + (j - suc k) ≡ j = omega arith in
      ap (held_at rom inputs cell) (sym e)
      ∙ stays (suc k) (j - suc k) (λ i c d. l.later i (omega arith) (omega arith))
      ∙ ap (λ (m : Machine). get_or (cells_of m) cell 0) (goes rom inputs k (ran k l.did).0)

  untouched : (n : ℕ) → NoneDid rom inputs cell n → (j : ℕ) → j ≤ n → held_at rom inputs cell j ≡ get_or (cells_of reset_machine) cell 0
  untouched n none j h =
      let e : 0 + j ≡ j = omega arith in
      ap (held_at rom inputs cell) (sym e) ∙ stays 0 j (λ i c d. none i (omega arith))

  pub why_laws : (count : ℕ) → WhyLaws rom inputs cell count
  why_laws count = record {
    last = λ k. (found count k, is_last count k);
    never = (none_said count, λ none. ap said (none_is count none));
    ran = ran;
    kept = kept count;
    untouched = untouched count;
  }
