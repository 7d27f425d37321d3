-- The laws of the cell write, over the address and the chip.
-- Assumes nothing.
use Rattle.std.proofs.Common.{◌≡◌, ℕ, ◌<◌, ◌≤◌, Bool, true, false, cond, not, eqb, ltb, List, [], ◌∷◌, length, get_or, sym, refl, ap, ◌∙◌, eqb→eq, length-set, get_or-set_other, get_or-set_same, ltb-true, eq-eqb}
use borrow.Author.Tests.{eqb-false, not-true}
use lib.Bits.{bit_and, and_zero_r}
use lib.Seq.{set_out}
use Rattle.laws.proofs.Again.{again}
use Rattle.laws.proofs.Booleans.{both, or_neither}
use Rattle.laws.proofs.Every.{every_at_lem, passed}
use Rattle.laws.proofs.Stored.{every_stored}
use Rattle.memory.specs.Chip.{Chip, is_missing}
use Rattle.memory.specs.Range.{cell_in_range, cells_in_range}
use Rattle.memory.specs.Write.{Write, mask_at, kept_of, write_of, writes_applied, touches}
use Rattle.memory.specs.WriteLaws.{WriteLaws}

module _ (chip : Chip) where
  pub same : (cells : List ℕ) (at v : ℕ) → at < length cells → get_or (write_of chip cells at v) at 0 ≡ kept_of chip at v
  unfolding write_of
  same cells at v h = get_or-set_same cells at (kept_of chip at v) 0 h

  pub other : (cells : List ℕ) (at v k : ℕ) → (k ≡ at → ⊥) → get_or (write_of chip cells at v) k 0 ≡ get_or cells k 0
  unfolding write_of
  other cells at v k h = get_or-set_other cells at k (kept_of chip at v) 0 h

  stored : (cells : List ℕ) (at v : ℕ) → at < length cells → chip.installed at ≡ true
      → get_or (write_of chip cells at v) at 0 ≡ bit_and v (get_or chip.masks at 0)
  unfolding kept_of
  stored cells at v h i = same cells at v h ∙ ap (λ (b : Bool). bit_and v (cond b (get_or chip.masks at 0) 0)) i

  past : (cells : List ℕ) (at v : ℕ) → length cells ≤ at → write_of chip cells at v ≡ cells
  unfolding write_of
  past cells at v h = set_out cells at (kept_of chip at v) h

  kept_kept : (at v : ℕ) → kept_of chip at (kept_of chip at v) ≡ kept_of chip at v
  unfolding kept_of
  kept_kept at v = again v (mask_at chip at)

  -- a cell in range by what it holds
  abbrev fits : ℕ → ℕ → Bool
  fits at v = eqb (kept_of chip at v) v

  pub ranged_once : (cells : List ℕ) (at v : ℕ) → cells_in_range chip cells ≡ true → cells_in_range chip (write_of chip cells at v) ≡ true
  unfolding cells_in_range write_of
  ranged_once cells at v r = every_stored fits cells at (kept_of chip at v) (passed (eq-eqb _ _ (kept_kept at v))) 128 r

  pub ranged : (ws : List Write) (cells : List ℕ) → cells_in_range chip cells ≡ true → cells_in_range chip (writes_applied chip cells ws) ≡ true
  unfolding writes_applied
  ranged [] cells r = r
  ranged (w ∷ ws) cells r = ranged ws (write_of chip cells w.at w.value) (ranged_once cells w.at w.value r)

  -- of a missing cell no bit stays
  pub none_kept : (k v : ℕ) → chip.installed k ≡ false → kept_of chip k v ≡ 0
  unfolding kept_of
  none_kept k v e = ap (λ (b : Bool). bit_and v (cond b (get_or chip.masks k 0) 0)) e ∙ and_zero_r v

  missing : (cells : List ℕ) (k : ℕ) → is_missing chip k ≡ true → cells_in_range chip cells ≡ true → get_or cells k 0 ≡ 0
  unfolding cells_in_range
  missing cells k m r =
      let e = both (ltb k 128) (not (chip.installed k)) m in
      sym (eqb→eq _ _ (every_at_lem (cell_in_range chip cells) 128 (passed r) k (ltb-true k 128 e.0))) ∙ none_kept k (get_or cells k 0) (not-true _ e.1)

  pub untouched : (ws : List Write) (cells : List ℕ) (k : ℕ) → touches ws k ≡ false
      → get_or (writes_applied chip cells ws) k 0 ≡ get_or cells k 0
  unfolding writes_applied
  untouched [] cells k e = refl
  untouched (w ∷ ws) cells k e =
      let n = or_neither (eqb k w.at) (touches ws k) e in
      untouched ws (write_of chip cells w.at w.value) k n.1 ∙ other cells w.at w.value k (eqb-false k w.at n.0)

  pub counted : (ws : List Write) (cells : List ℕ) → length (writes_applied chip cells ws) ≡ length cells
  unfolding writes_applied write_of
  counted [] cells = refl
  counted (w ∷ ws) cells = counted ws (write_of chip cells w.at w.value) ∙ length-set cells w.at (kept_of chip w.at w.value)

  pub write_laws : (cells : List ℕ) → WriteLaws chip cells
  write_laws cells = record {
    same = same cells;
    stored = stored cells;
    other = other cells;
    past = past cells;
    untouched = λ ws k. untouched ws cells k;
    ranged = λ ws. ranged ws cells;
    missing = missing cells;
    stays_missing = λ ws k m r. missing (writes_applied chip cells ws) k m (ranged ws cells r);
    counted = λ ws. counted ws cells;
  }
