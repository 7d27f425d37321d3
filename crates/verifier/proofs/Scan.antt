-- The search for the lowest word that breaks a rule, and its lowest rule.
-- Assumes nothing.
use mathlib.Core.Path.{◌≡◌, ◌∙◌, ap, refl, sym, subst}
use mathlib.Core.Bool.{Bool, true, false}
use mathlib.Core.List.{List}
use mathlib.Core.Logic.{⊎_elim}
use Prim.Native.Nat.{ℕ, suc, ◌+◌, ◌*◌, ◌-◌, ◌<◌, ◌≤◌, zero-le}
use native.Mathlib.Nat.{eq-or-lt_of_le, zero-add, not-suc-le-zero}
use native.Mathlib.Omega.{arith}
use borrow.Author.Tests.{lt-ltb, le-ltb, le-leb, lt-leb, eq-eqb, ne_eqb}
use lib.Dec.{ltb}
use lib.ListN.{length}
use Rattle.laws.proofs.Booleans.{not_passed}
use Rattle.laws.proofs.First.{Clear, First, first_is}
use Rattle.memory.specs.Chip.{Chip}
use Rattle.machine.specs.Ranges.{rom_in_range}
use Rattle.clearance.specs.Rules.{rule_holds}
use Rattle.verifier.specs.Verdict.{pass, fail, refused, word_holds, lowest_word, lowest_rule, ruled, verify_of}
use Rattle.verifier.proofs.Exact.{word_holds_lem, rule_holds_lem}

module _ (chip : Chip) (rom sheet : List ℕ) where
  abbrev R : ℕ → ℕ → Bool
  R w k = rule_holds chip rom sheet w (suc k)

  abbrev W : ℕ → Bool
  W w = word_holds chip rom sheet w

  -- the rules below a number hold at a word, and all rules at the words below one
  abbrev pub RulesTo : ℕ → ℕ → Type 0
  RulesTo w rule = Clear (R w) 0 (rule - 1)

  abbrev pub WordsTo : ℕ → Type 0
  WordsTo w = Clear W 0 w

  pub no_rule : (w : ℕ) → RulesTo w 1
  no_rule w i l u = absurd (not-suc-le-zero u)

  pub no_word : WordsTo 0
  no_word i l u = absurd (not-suc-le-zero u)

  pub rule_more : (w rule : ℕ) → 1 ≤ rule → RulesTo w rule → rule_holds chip rom sheet w rule ≡ true → RulesTo w (rule + 1)
  rule_more w rule a c h i l u =
      let m : i ≤ rule - 1 = omega arith in
      ⊎_elim
      (λ (q : i ≡ rule - 1). let p : rule ≡ suc i = omega arith in subst (λ (x : ℕ). rule_holds chip rom sheet w x ≡ true) p h)
      (λ (q : i < rule - 1). c i l q)
      (eq-or-lt_of_le m)

  word_clear : (w : ℕ) → RulesTo w 7 → W w ≡ true
  word_clear w c =
      word_holds_lem chip rom sheet w
      (λ r a b. let q : suc (r - 1) ≡ r = omega arith in subst (λ (x : ℕ). rule_holds chip rom sheet w x ≡ true) q (c (r - 1) zero-le (omega arith)))

  pub word_more : (w rule : ℕ) → rule ≡ 7 → RulesTo w rule → WordsTo w → WordsTo (w + 1)
  word_more w rule e c s i l u =
      let m : i ≤ w = omega arith in
      ⊎_elim
      (λ (q : i ≡ w). subst (λ (x : ℕ). W x ≡ true) (sym q) (word_clear w (subst (RulesTo w) e c)))
      (λ (q : i < w). s i l q)
      (eq-or-lt_of_le m)

  first_word : (w : ℕ) → First W 0 (length rom) w → lowest_word chip rom sheet ≡ w
  first_word w f = sym (first_is W 0 (length rom) w (subst (λ (x : ℕ). First W 0 x w) (sym (zero-add (length rom))) f))

  first_rule : (w k : ℕ) → First (R w) 0 6 k → lowest_rule chip rom sheet w ≡ suc k
  first_rule w k f = ap suc (sym (first_is (R w) 0 6 k f))

  -- ROMs that refusal 1 meets, and those that it does not
  pub empty : length rom ≡ 0 → refused 1 ≡ verify_of chip rom sheet
  unfolding verify_of rom_in_range
  empty e = rw e refl

  pub long : chip.words < length rom → refused 1 ≡ verify_of chip rom sheet
  unfolding verify_of rom_in_range
  long h = rw (lt-ltb 0 (length rom) (omega arith), lt-leb (length rom) chip.words h) refl

  module _ (some : length rom ≡ 0 → ⊥) (few : length rom ≤ chip.words) where
    whole : rom_in_range chip rom ≡ true
    unfolding rom_in_range
    whole = rw (lt-ltb 0 (length rom) (omega arith), le-leb (length rom) chip.words few) refl

    pub unlike : (length sheet ≡ 2 * length rom → ⊥) → refused 9 ≡ verify_of chip rom sheet
    unfolding verify_of
    unlike n = rw (whole, ne_eqb (length sheet) (2 * length rom) n) refl

    module _ (same : length sheet ≡ 2 * length rom) where
      pub passes : (w : ℕ) → w ≡ length rom → WordsTo w → pass ≡ verify_of chip rom sheet
      unfolding verify_of ruled
      passes w e s =
          let first : First W 0 (length rom) (length rom) = record {
            low = zero-le;
            high = omega arith;
            clear = subst WordsTo e s;
            fails = λ h. absurd (omega arith);
          } in
          let at : lowest_word chip rom sheet ≡ length rom = first_word (length rom) first in
          let over : ltb (lowest_word chip rom sheet) (length rom) ≡ false = le-ltb (lowest_word chip rom sheet) (length rom) (omega arith) in
          rw (whole, eq-eqb (length sheet) (2 * length rom) same, over) refl

      module _ (w rule : ℕ) (inside : w < length rom) (s : WordsTo w) (lo : 1 ≤ rule) (hi : rule ≤ 6) (c : RulesTo w rule)
          (broken : rule_holds chip rom sheet w rule ≡ false) where
        breaks : W w ≡ false
        breaks =
            not_passed (W w)
            (λ (q : W w ≡ true).
            let h : rule_holds chip rom sheet w rule ≡ true = rule_holds_lem chip rom sheet w rule q lo hi in
            let z : ◌≡◌ {A = ℕ} 0 1 = cc in
            omega arith)

        pub fails : fail w rule ≡ verify_of chip rom sheet
        unfolding verify_of ruled
        fails =
            let up : suc (rule - 1) ≡ rule = omega arith in
            let word : lowest_word chip rom sheet ≡ w = first_word w (record { low = zero-le; high = omega arith; clear = s; fails = λ _. breaks }) in
            let lowest : lowest_rule chip rom sheet w ≡ rule
            = first_rule w (rule - 1)
            (record {
              low = zero-le;
              high = omega arith;
              clear = c;
              fails = λ _. subst (λ (x : ℕ). rule_holds chip rom sheet w x ≡ false) (sym up) broken;
            })
            ∙ up in
            rw (whole, eq-eqb (length sheet) (2 * length rom) same, word, lt-ltb w (length rom) inside, lowest) refl
