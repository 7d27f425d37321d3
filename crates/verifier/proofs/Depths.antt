-- The table of the depths that a reached RETSK holds, word by word.
-- Assumes nothing.
use mathlib.Core.Path.{◌≡◌, ◌∙◌, ap}
use mathlib.Core.Bool.{Bool, true, false, ◌&&◌, ◌||◌}
use mathlib.Core.List.{List}
use Prim.Native.Nat.{ℕ, ◌+◌, ◌<◌}
use native.Mathlib.Numerals.{add-one}
use lib.ListN.{length, replicate}
use Rattle.laws.specs.Every.{some}
use Rattle.memory.specs.Chip.{Chip}
use Rattle.sheet.specs.Depths.{with_depths, shares_any}
use Rattle.sheet.specs.Entry.{unreached, entry_at, shares}
use Rattle.sheet.specs.declared.Entry.{Entry}
use Rattle.sheet.proofs.Tables.{none_shared, one_more}
use Rattle.clearance.specs.Rules.{is_return_skip, flow_at, skip_returns}
use Rattle.verifier.specs.ReturnDepths.{ReturnDepths}

module _ (chip : Chip) (rom sheet : List ℕ) where
  -- a RETSK that shares a depth with an entry
  abbrev returning : Entry → ℕ → Bool
  returning e w = is_return_skip (flow_at rom w) && shares chip.levels (entry_at sheet w) e

  -- the words below a number are in the table
  unfoldable pub Seen : ℕ → List ℕ → Type 0
  Seen w table = (e : Entry) → shares_any chip.levels table e ≡ some (returning e) w

  pub none_yet : chip.levels < unreached → (n : ℕ) → Seen 0 (replicate n unreached)
  unfolding Seen
  none_yet small n e = none_shared chip.levels small n e

  -- one word more: no RETSK, or one
  pub passed_by : (w : ℕ) (table : List ℕ) → is_return_skip (flow_at rom w) ≡ false → Seen w table → Seen (w + 1) table
  unfolding Seen
  passed_by w table p s e = rw (add-one w, p) (s e)

  pub added : (w : ℕ) (table : List ℕ) → is_return_skip (flow_at rom w) ≡ true → chip.levels < length table
      → Seen w table → Seen (w + 1) (with_depths chip.levels table (entry_at sheet w))
  unfolding Seen
  added w table p fits s e =
      rw (add-one w, p)
      (one_more chip.levels table (entry_at sheet w) fits e ∙ ap (λ (b : Bool). shares chip.levels (entry_at sheet w) e || b) (s e))

  pub all_seen : (w : ℕ) (table : List ℕ) → w ≡ length rom → Seen w table → ReturnDepths chip rom sheet table
  unfolding Seen skip_returns
  all_seen w table q s e = s e ∙ ap (some (returning e)) q
