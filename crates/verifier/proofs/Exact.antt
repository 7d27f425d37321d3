-- The check passes exactly where there is no refusal and every rule holds at every word.
-- Assumes nothing.
use mathlib.Core.Path.{◌≡◌, refl, subst}
use mathlib.Core.Bool.{Bool, true, false, cond}
use mathlib.Core.List.{List}
use Prim.Native.Nat.{ℕ, suc, ◌*◌, ◌-◌, ◌<◌, ◌≤◌, zero-le}
use native.Mathlib.Nat.{zero-add}
use native.Mathlib.Omega.{arith}
use borrow.Author.Tests.{ltb-true, ltb-false, eqb-true, eq-eqb}
use lib.Dec.{eqb, ltb}
use lib.ListN.{length}
use Rattle.laws.specs.Every.{every}
use Rattle.laws.proofs.Every.{every_at_lem, every_of, passed, holds}
use Rattle.laws.proofs.Booleans.{not_passed}
use Rattle.laws.proofs.First.{First, first_from_lem}
use Rattle.memory.specs.Chip.{Chip}
use Rattle.machine.specs.Ranges.{rom_in_range}
use Rattle.clearance.specs.Rules.{rule_holds, EveryRule}
use Rattle.verifier.specs.Verdict.{pass, fail, refused, word_holds, lowest_word, lowest_rule, ruled, verify_of, Clear, Exactly}

module _ (chip : Chip) (rom sheet : List ℕ) where
  abbrev W : ℕ → Bool
  W w = word_holds chip rom sheet w

  -- a word at which each rule holds
  pub word_holds_lem : (w : ℕ) → ((r : ℕ) → 1 ≤ r → r ≤ 6 → rule_holds chip rom sheet w r ≡ true) → W w ≡ true
  word_holds_lem w h = holds (every_of (λ (k : ℕ). rule_holds chip rom sheet w (suc k)) 6 (λ k l. passed (h (suc k) (omega arith) (omega arith))))

  pub rule_holds_lem : (w r : ℕ) → W w ≡ true → 1 ≤ r → r ≤ 6 → rule_holds chip rom sheet w r ≡ true
  rule_holds_lem w r e a b =
      let q : suc (r - 1) ≡ r = omega arith in
      subst (λ (x : ℕ). rule_holds chip rom sheet w x ≡ true) q
      (holds (every_at_lem (λ (k : ℕ). rule_holds chip rom sheet w (suc k)) 6 (passed e) (r - 1) (omega arith)))

  lowest : First W 0 (length rom) (lowest_word chip rom sheet)
  lowest = subst (λ (x : ℕ). First W 0 x (lowest_word chip rom sheet)) (zero-add (length rom)) (first_from_lem W 0 (length rom))

  -- no word fails: every rule holds at every word
  all_clear : length rom ≤ lowest_word chip rom sheet → EveryRule chip rom sheet
  all_clear h w r a b c = rule_holds_lem w r (lowest.clear w zero-le (omega arith)) b c

  none_fails : EveryRule chip rom sheet → (b : Bool) → ltb (lowest_word chip rom sheet) (length rom) ≡ b → b ≡ true → ⊥
  none_fails every true e q =
      let l : lowest_word chip rom sheet < length rom = ltb-true (lowest_word chip rom sheet) (length rom) e in
      let t : W (lowest_word chip rom sheet) ≡ true = word_holds_lem (lowest_word chip rom sheet) (λ r. every (lowest_word chip rom sheet) r l) in
      let f : W (lowest_word chip rom sheet) ≡ false = lowest.fails l in
      let z : ◌≡◌ {A = ℕ} 0 1 = cc in
      omega arith
  none_fails every false e q = let z : ◌≡◌ {A = ℕ} 0 1 = cc in omega arith

  passes : (a b c : Bool) (w r : ℕ) → rom_in_range chip rom ≡ a → eqb (length sheet) (2 * length rom) ≡ b → ltb (lowest_word chip rom sheet) (length rom) ≡ c
      → cond a (cond b (cond c (fail w r) pass) (refused 9)) (refused 1) ≡ pass → Clear chip rom sheet
  passes true true true w r p q s e = absurd (let z : ◌≡◌ {A = ℕ} 0 1 = cc in omega arith)
  passes true true false w r p q s e = record {
    whole = p;
    fitting = eqb-true (length sheet) (2 * length rom) q;
    rules = all_clear (ltb-false (lowest_word chip rom sheet) (length rom) s);
  }
  passes true false c w r p q s e = absurd (let z : ◌≡◌ {A = ℕ} 0 1 = cc in omega arith)
  passes false b c w r p q s e = absurd (let z : ◌≡◌ {A = ℕ} 0 1 = cc in omega arith)

  -- where these hold each test of the check passes
  module _ (c : Clear chip rom sheet) where
    rom_fits : rom_in_range chip rom ≡ true
    rom_fits = c.whole

    sheet_fits : eqb (length sheet) (2 * length rom) ≡ true
    sheet_fits = eq-eqb (length sheet) (2 * length rom) c.fitting

    no_word_fails : ltb (lowest_word chip rom sheet) (length rom) ≡ false
    no_word_fails =
        not_passed (ltb (lowest_word chip rom sheet) (length rom)) (λ q. none_fails c.rules (ltb (lowest_word chip rom sheet) (length rom)) refl q)

  pub exactly : Exactly chip rom sheet
  unfolding verify_of ruled
  exactly = (
    (λ e.
        passes (rom_in_range chip rom) (eqb (length sheet) (2 * length rom)) (ltb (lowest_word chip rom sheet) (length rom))
        (lowest_word chip rom sheet) (lowest_rule chip rom sheet (lowest_word chip rom sheet)) refl refl refl e),
    (λ c. rw (rom_fits c, sheet_fits c, no_word_fails c)),
  )
