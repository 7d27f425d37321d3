-- What is known of a ROM that is cleared, and what the rules give at a word that is reached.
-- Assumes nothing.
use mathlib.Core.Path.{◌≡◌, ◌∙◌, sym}
use mathlib.Core.Bool.{Bool, true, ◌&&◌}
use mathlib.Core.List.{List}
use Prim.Native.Nat.{ℕ, ◌^◌, ◌<◌, ◌≤◌}
use borrow.Author.Tests.{ltb-true}
use lib.Dec.{ltb, lit≤}
use lib.ListN.{length}
use Rattle.laws.proofs.Booleans.{both}
use Rattle.laws.proofs.Some.{some_of}
use Rattle.memory.specs.Chip.{Chip}
use Rattle.memory.specs.Range.{cells_in_range}
use Rattle.memory.specs.Registers.{ar_of}
use Rattle.machine.specs.Ranges.{places, rom_in_range}
use Rattle.control.specs.declared.Flow.{Flow}
use Rattle.cpu.proofs.Ranged.{ArFits}
use Rattle.sheet.specs.Entry.{entry_at, holds, shares}
use Rattle.sheet.specs.declared.Entry.{Entry}
use Rattle.sheet.proofs.Entries.{holds_reached, covers_holds, shares_both}
use Rattle.clearance.specs.Rules.{Ask, is_return_skip, flow_at, met, skip_returns, rule3, rule4, rule5, rule6, where_reached, rule_of, EveryRule}

pub record Cleared (chip : Chip) (rom sheet : List ℕ) : Type 0 where
  -- of the chip: the record has a place for each level, there is a level, and AR holds an address and a table's
  pub small : chip.levels ≤ places
  pub some : 0 < chip.levels
  pub addresses : ArFits chip
  pub table : (cells : List ℕ) → cells_in_range chip cells ≡ true → ar_of cells < 2 ^ 10
  -- of the ROM
  pub whole : rom_in_range chip rom ≡ true
  pub short : length rom ≤ 2 ^ chip.pc_bits
  pub every : EveryRule chip rom sheet

module _ (chip : Chip) (rom sheet : List ℕ) where
  abbrev E : ℕ → Entry
  E w = entry_at sheet w

  abbrev F : ℕ → Flow
  F w = flow_at rom w

  -- a word in the ROM whose entry holds a depth
  pub record Stands (w d : ℕ) : Type 0 where
    pub inside : w < length rom
    pub level : holds chip.levels (E w) d ≡ true

  -- an ask that is met, for a depth that its entry holds
  module _ (a : Ask) (m : met chip rom sheet a ≡ true) where
    asked_inside : a.word < length rom
    unfolding met
    asked_inside = ltb-true a.word (length rom) (both _ _ m).0

    asked_level : (d : ℕ) → holds chip.levels a.entry d ≡ true → holds chip.levels (E a.word) d ≡ true
    unfolding met
    asked_level d h = covers_holds chip.levels (E a.word) a.entry d (both (ltb a.word _) _ m).1 h

    pub asked : (d : ℕ) → holds chip.levels a.entry d ≡ true → Stands a.word d
    asked d h = record { inside = asked_inside; level = asked_level d h }

  -- a reached RETSK at a depth that an entry holds is found
  pub found : (w d : ℕ) (e : Entry) → Stands w d → is_return_skip (F w) ≡ true → holds chip.levels e d ≡ true → skip_returns chip rom sheet e ≡ true
  unfolding skip_returns
  found w d e s f h =
      let both_hold = shares_both chip.levels (E w) e d s.level h in
      some_of (λ (k : ℕ). is_return_skip (F k) && shares chip.levels (E k) e) (length rom) w s.inside (rw f both_hold)

  -- the rules of a reached word
  pub record Ruled (w : ℕ) (f : Flow) (e : Entry) : Type 0 where
    pub third : rule3 chip rom f e ≡ true
    pub fourth : rule4 chip rom sheet w f e ≡ true
    pub fifth : rule5 chip rom sheet w f e ≡ true
    pub sixth : rule6 f e ≡ true

  pub ruled : EveryRule chip rom sheet → (w d : ℕ) → Stands w d → Ruled w (F w) (E w)
  unfolding rule_of
  ruled every w d s =
      let there : (b : Bool) → where_reached chip (E w) b ≡ true → b ≡ true
      = λ b e. sym (rw (holds_reached chip.levels (E w) d s.level)) ∙ e in
      record {
        third = there _ (every w 3 s.inside (lit≤ tt) (lit≤ tt));
        fourth = there _ (every w 4 s.inside (lit≤ tt) (lit≤ tt));
        fifth = there _ (every w 5 s.inside (lit≤ tt) (lit≤ tt));
        sixth = there _ (every w 6 s.inside (lit≤ tt) (lit≤ tt));
      }
