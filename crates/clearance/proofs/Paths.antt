-- Where control stands on a cleared ROM, and that every flow keeps it there. What a rule says is written nowhere here: it comes
-- from the rule, and is held to what control does.
-- Assumes nothing.
use mathlib.Core.Path.{◌≡◌, ◌∙◌, ap, refl, sym, subst}
use mathlib.Core.Bool.{Bool, true, false, false≢true}
use mathlib.Core.List.{List}
use Prim.Native.Nat.{ℕ, suc, ◌+◌, ◌-◌, ◌^◌, ◌<◌, ◌≤◌}
use native.Mathlib.Numerals.{add-one}
use native.Mathlib.Omega.{arith}
use borrow.Author.Tests.{lt-leb, ne_eqb, eqb-true, eqb-false}
use lib.Dec.{eqb, leb}
use lib.ListN.{get_or, set, length, length-set}
use lib.Seq.{get_or-set_same, get_or-set_other}
use Rattle.laws.specs.Bit.{bit}
use Rattle.laws.proofs.Booleans.{both}
use Rattle.memory.specs.Chip.{Chip}
use Rattle.machine.specs.Parts.{is_marked}
use Rattle.machine.specs.Ranges.{places}
use Rattle.machine.specs.Refusals.{number_of}
use Rattle.machine.specs.declared.Control.{Control}
use Rattle.machine.specs.declared.Refusal.{Refusal}
use Rattle.control.specs.Control.{Transfer, refused_control, mark_of, next_of, top_of, in_reach, branch_of, call_of, return_of, table_of, standby_of, onward_of, by_ar_of, control_of}
use Rattle.control.specs.declared.Rest.{Rest}
use Rattle.control.specs.declared.ArOp.{ArOp}
use Rattle.control.specs.declared.Flow.{Flow}
use Rattle.control.specs.declared.Flow.TheVariants.{Onward, Skips, Branches, Calls, Returns, ReadsTable, StandsBy, ByAr, Refused}
use Rattle.cpu.specs.Execute.{past_table}
use Rattle.sheet.specs.Entry.{entry_at, holds, raised, at_most}
use Rattle.sheet.specs.declared.Entry.{Entry}
use Rattle.sheet.proofs.Entries.{raised_holds, at_most_holds, at_least_holds}
use Rattle.clearance.specs.Calls.{Tally, counted}
use Rattle.clearance.specs.Rules.{is_return_skip, flow_at, met}
use Rattle.clearance.proofs.Ruled.{Cleared, Stands, Ruled, asked, found}

-- a mark that was set from a condition
pub marked_bit : (b : Bool) → is_marked (bit b) ≡ b
marked_bit true = refl
marked_bit false = refl

module _ (chip : Chip) (rom sheet : List ℕ) where
  abbrev At : ℕ → ℕ → Type 0
  At w d = Stands chip rom sheet w d

  abbrev N : ℕ → ℕ
  N w = next_of chip w

  -- a stacked address: the word to go back to, and where a RETSK at the level above may come, the one after it
  pub record Back (a k : ℕ) : Type 0 where
    pub plain : At a k
    pub skipped : (w : ℕ) → At w (suc k) → is_return_skip (flow_at rom w) ≡ true → At (N a) k

  pub record OnPath (c : Control) (t : Tally) : Type 0 where
    pub places : length c.stack ≡ places
    pub here : At c.pc c.levels
    pub opened : t.returns + c.levels ≡ t.calls
    pub skipping : is_marked c.skip ≡ true → At (N c.pc) c.levels
    pub stacked : (k : ℕ) → k < c.levels → Back (get_or c.stack k 0) k

  -- a change of control that is not refused
  pub record Kept (x : Transfer) (t : Tally) : Type 0 where
    pub unrefused : x.refusal ≡ 0
    pub path : OnPath x.control t

  module _ (g : Cleared chip rom sheet) (c : Control) (t : Tally) (p : OnPath c t) (plain : is_marked c.skip ≡ false) where
    abbrev pc : ℕ
    pc = c.pc

    abbrev d : ℕ
    d = c.levels

    abbrev e : Entry
    e = entry_at sheet pc

    unmarked : {A : Type 0} → is_marked c.skip ≡ true → A
    unmarked s = absurd (false≢true (sym plain ∙ s))

    -- control that only goes to another word at the same level
    moved : (to skip standby : ℕ) → At to d → (is_marked skip ≡ true → At (N to) d)
        → OnPath (record { pc = to; stack = c.stack; levels = d; skip = skip; standby = standby }) t
    moved to skip standby a s = record { places = p.places; here = a; opened = p.opened; skipping = s; stacked = p.stacked }

    -- a word that a rule names at this word's own level
    named : (w : ℕ) → met chip rom sheet (record { word = w; entry = e }) ≡ true → At w d
    named w m = asked chip rom sheet (record { word = w; entry = e }) m d p.here.level

    near : (to : ℕ) → to < length rom → leb (2 ^ chip.pc_bits) to ≡ false
    near to h = lt-leb (2 ^ chip.pc_bits) to (omega (arith, g.short))

    abbrev Rules : Flow → Type 0
    Rules f = Ruled chip rom sheet pc f e

    -- Each flow, from the rules of its word.

    goes_on : (skip : Bool) → At (N pc) d → (skip ≡ true → At (N (N pc)) d) → Kept (onward_of chip skip c) t
    unfolding onward_of
    goes_on skip a s = record { unrefused = refl; path = moved (N pc) (bit skip) c.standby a (λ q. s (sym (marked_bit skip) ∙ q)) }

    onward : Rules Onward → Kept (onward_of chip false c) t
    onward r = goes_on false (named _ (both _ _ r.fourth).0) (λ x. absurd (false≢true x))

    skips : (b : Bool) → Rules Skips → Kept (onward_of chip b c) t
    skips b r = let m = both _ _ r.fourth in goes_on b (named _ m.0) (λ _. named _ (both _ _ m.1).0)

    branches : (to : ℕ) → Rules (Branches to) → Kept (branch_of chip to c) t
    unfolding branch_of
    branches to r =
        let a : At to d = named _ (both _ _ r.fourth).0 in
        rw (near to a.inside) (record { unrefused = refl; path = moved to c.skip c.standby a unmarked })

    tables : Rules ReadsTable → Kept (table_of chip c) t
    unfolding table_of
    tables r =
        let l = at_most_holds chip.levels _ e d (both (eqb (length rom) _) _ r.third).1 p.here.level in
        rw (lt-leb chip.levels d (omega (arith, g.some)))
        (record { unrefused = refl; path = moved (N pc) c.skip c.standby (named _ (both _ _ r.fourth).0) unmarked })

    -- MOVT finds its table
    in_table : (ar : ℕ) → ar < 2 ^ 10 → Rules ReadsTable → leb (length rom) ar ≡ false
    in_table ar h r = lt-leb (length rom) ar (omega (arith, eqb-true (length rom) _ (both (eqb (length rom) _) _ r.third).0))

    stands_by : (rest : Rest) → Rules (StandsBy rest) → Kept (standby_of chip (mark_of rest) c) t
    unfolding standby_of
    stands_by rest r = record { unrefused = refl; path = moved (N pc) c.skip (mark_of rest) (named _ (both _ _ r.fourth).0) unmarked }

    by_ar : (op : ArOp) (ar : ℕ) → Rules (ByAr op) → Kept (by_ar_of chip op ar c) t
    by_ar op ar r = absurd (false≢true r.third)

    refuses : (q : Refusal) → Rules (Refused q) → Kept (refused_control (number_of q) c) t
    refuses q r = absurd (false≢true r.third)

    -- CALL stacks the next word
    module _ (to : ℕ) (r : Rules (Calls to)) where
      free : d < chip.levels
      free = omega (arith, g.some, at_most_holds chip.levels _ e d (both _ _ r.fifth).0 p.here.level)

      higher : holds chip.levels (raised e) (suc d) ≡ true
      higher = raised_holds chip.levels g.some e (both _ _ r.fifth).0 d p.here.level

      target : At to (suc d)
      target = let m = both (at_most _ e) _ r.fifth in asked chip rom sheet _ (both _ _ m.1).0 (suc d) higher

      back : At (N pc) d
      back = named _ (both _ _ r.fourth).0

      skipped_back : (w : ℕ) → At w (suc d) → is_return_skip (flow_at rom w) ≡ true → At (N (N pc)) d
      skipped_back w s f =
          let m = both (at_most _ e) _ r.fifth in
          let after = both (met chip rom sheet _) _ m.1 in
          named _ (both _ _ (rw (found chip rom sheet w (suc d) _ s f higher) at after.1)).0

      pushed : (k : ℕ) (b : Bool) → eqb k d ≡ b → k < d + 1 → d < length c.stack → Back (get_or (set c.stack d (N pc)) k 0) k
      pushed k true q l i =
          let same : k ≡ d = eqb-true k d q in
          rw (same, get_or-set_same c.stack d (N pc) 0 i) (record { plain = back; skipped = skipped_back })
      pushed k false q l i =
          let n : k ≡ d → ⊥ = eqb-false k d q in
          rw (get_or-set_other c.stack d k (N pc) 0 n) (p.stacked k (omega arith))

      opens : (counted (Calls to) t).returns + (d + 1) ≡ (counted (Calls to) t).calls
      opens = omega (arith, p.opened)

      calls : Kept (in_reach chip to c (call_of chip to c)) (counted (Calls to) t)
      unfolding call_of
      calls =
          let i : d < length c.stack = rw p.places (omega (arith, free, g.small)) in
          rw (near to target.inside, lt-leb chip.levels d free)
          (record {
            unrefused = refl;
            path = record {
              places = length-set c.stack d (N pc) ∙ p.places;
              here = subst (At to) (sym (add-one d)) target;
              opened = opens;
              skipping = unmarked;
              stacked = λ k h. pushed k (eqb k d) refl h i;
            };
          })

    -- RET and RETSK go back
    module _ (skip : Bool) (r : Rules (Returns skip)) (f : flow_at rom pc ≡ Returns skip) where
      some_open : 1 ≤ d
      some_open = at_least_holds chip.levels _ e d r.sixth p.here.level

      popped : (k : ℕ) → k < d - 1 → Back (get_or (set c.stack (d - 1) 0) k 0) k
      popped k h = rw (get_or-set_other c.stack (d - 1) k 0 0 (λ (x : k ≡ d - 1). omega arith)) (p.stacked k (omega arith))

      closes : (counted (Returns skip) t).returns + (d - 1) ≡ (counted (Returns skip) t).calls
      closes = omega (arith, p.opened, some_open)

      returns : Kept (return_of skip c) (counted (Returns skip) t)
      unfolding return_of
      returns =
          let back : Back (top_of c) (d - 1) = p.stacked (d - 1) (omega (arith, some_open)) in
          let up : d ≡ suc (d - 1) = omega (arith, some_open) in
          rw (ne_eqb d 0 (λ (x : d ≡ 0). omega arith))
          (record {
            unrefused = refl;
            path = record {
              places = length-set c.stack (d - 1) 0 ∙ p.places;
              here = back.plain;
              opened = closes;
              skipping = λ q. back.skipped pc (subst (At pc) up p.here) (ap is_return_skip f ∙ sym (marked_bit skip) ∙ q);
              stacked = popped;
            };
          })

    pub follows : (f : Flow) → flow_at rom pc ≡ f → Rules f → (b : Bool) (ar : ℕ) → ar < 2 ^ 10
        → Kept (control_of chip f b ar c) (counted f t) × (past_table rom ar f ≡ false)
    unfolding control_of past_table
    follows Onward q r b ar h = (onward r, refl)
    follows Skips q r b ar h = (skips b r, refl)
    follows (Branches to) q r b ar h = (branches to r, refl)
    follows (Calls to) q r b ar h = (calls to r, refl)
    follows (Returns skip) q r b ar h = (returns skip r q, refl)
    follows ReadsTable q r b ar h = (tables r, in_table ar h r)
    follows (StandsBy rest) q r b ar h = (stands_by rest r, refl)
    follows (ByAr op) q r b ar h = (by_ar op ar r, refl)
    follows (Refused n) q r b ar h = (refuses n r, refl)
