-- The laws of the port image, over the port and the model.
-- Assumes nothing.
use Rattle.std.proofs.Common.{◌≡◌, ℕ, zero, suc, ◌+◌, ◌*◌, ◌^◌, ◌<◌, ◌≤◌, true, List, [], ◌∷◌, get_or, sym, refl, ◌∙◌, arith, eqb→eq}
use lib.Bits.{and_le_r}
use Rattle.laws.proofs.Every.{every_at_lem, passed}
use Rattle.memory.specs.Chip.{chip_of, subseries_masks}
use Rattle.memory.specs.Image.{image_of, port_at, bits_of}
use Rattle.memory.specs.ImageLaws.{ImageLaws}
use Rattle.memory.specs.Names.{P0A, P0B, P0C, P0D, P0E}
use Rattle.memory.specs.Range.{cell_in_range, cells_in_range}
use Rattle.memory.specs.Write.{kept_of, write_of}
use Rattle.memory.specs.declared.Model.{Model}
use Rattle.memory.specs.declared.Model.TheVariants.{Upd17132, Upd17120}
use Rattle.memory.proofs.Staying.{kept_nibble}
use Rattle.memory.proofs.Writes.{same, other, ranged_once}

-- five nibbles in one number, taken out again
taken_out : (a b c d e : ℕ) → a < 16 → b < 16 → c < 16 → d < 16 → e < 16 → (k : ℕ) → k < 5
    → bits_of k (a + b * 2 ^ 4 + c * 2 ^ 8 + d * 2 ^ 12 + e * 2 ^ 16) ≡ get_or (a ∷ b ∷ c ∷ d ∷ e ∷ []) k 0
taken_out a b c d e ha hb hc hd he zero h = omega arith
taken_out a b c d e ha hb hc hd he (suc zero) h = omega arith
taken_out a b c d e ha hb hc hd he (suc (suc zero)) h = omega arith
taken_out a b c d e ha hb hc hd he (suc (suc (suc zero))) h = omega arith
taken_out a b c d e ha hb hc hd he (suc (suc (suc (suc zero)))) h = omega arith
taken_out a b c d e ha hb hc hd he (suc (suc (suc (suc (suc k))))) h = absurd (omega arith)

-- a port's cell, by its place
in_order : (cells : List ℕ) (k : ℕ) → k < 5
    → get_or (get_or cells P0A 0 ∷ get_or cells P0B 0 ∷ get_or cells P0C 0 ∷ get_or cells P0D 0 ∷ get_or cells P0E 0 ∷ []) k 0 ≡ get_or cells (port_at k) 0
in_order cells zero h = refl
in_order cells (suc zero) h = refl
in_order cells (suc (suc zero)) h = refl
in_order cells (suc (suc (suc zero))) h = refl
in_order cells (suc (suc (suc (suc zero)))) h = refl
in_order cells (suc (suc (suc (suc (suc k))))) h = absurd (omega arith)

-- two bits of P0E stay
two_bits : (model : Model) (v : ℕ) → kept_of (chip_of model) P0E v ≡ v → v ≤ 3
unfolding kept_of subseries_masks
two_bits Upd17132 v e = omega (arith, e, and_le_r v 3)
two_bits Upd17120 v e = omega (arith, e, and_le_r v 3)

module _ (model : Model) where
  fits : (cells : List ℕ) → cells_in_range (chip_of model) cells ≡ true → (k : ℕ) → k < 128 → kept_of (chip_of model) k (get_or cells k 0) ≡ get_or cells k 0
  unfolding cells_in_range
  fits cells r k h = eqb→eq _ _ (every_at_lem (cell_in_range (chip_of model) cells) 128 (passed r) k h)

  nibble : (cells : List ℕ) → cells_in_range (chip_of model) cells ≡ true → (k : ℕ) → k < 128 → get_or cells k 0 < 16
  nibble cells r k h = kept_nibble model k (get_or cells k 0) h (fits cells r k h)

  shown : (cells : List ℕ) → cells_in_range (chip_of model) cells ≡ true → (k : ℕ) → k < 5 → bits_of k (image_of cells) ≡ get_or cells (port_at k) 0
  unfolding image_of
  shown cells r k h =
      let n = nibble cells r in
      taken_out (get_or cells P0A 0) (get_or cells P0B 0) (get_or cells P0C 0) (get_or cells P0D 0) (get_or cells P0E 0) (n P0A (omega arith)) (n P0B (omega arith))
      (n P0C (omega arith)) (n P0D (omega arith)) (n P0E (omega arith)) k h
      ∙ in_order cells k h

  narrow : (cells : List ℕ) → cells_in_range (chip_of model) cells ≡ true → image_of cells < 2 ^ 18
  unfolding image_of
  narrow cells r =
      let n = nibble cells r in
      omega (
        arith,
        n P0A (omega arith),
        n P0B (omega arith),
        n P0C (omega arith),
        n P0D (omega arith),
        two_bits model (get_or cells P0E 0) (fits cells r P0E (omega arith)),
      )

  elsewhere : (cells : List ℕ) (at v : ℕ) → ((k : ℕ) → k < 5 → port_at k ≡ at → ⊥) → image_of (write_of (chip_of model) cells at v) ≡ image_of cells
  unfolding image_of
  elsewhere cells at v n =
      let o = other (chip_of model) cells at v in
      rw (o P0A (n 0 (omega arith)), o P0B (n 1 (omega arith)), o P0C (n 2 (omega arith)), o P0D (n 3 (omega arith)), o P0E (n 4 (omega arith)))

  pub image_laws : (cells : List ℕ) → cells_in_range (chip_of model) cells ≡ true → ImageLaws (chip_of model) cells
  image_laws cells r =
      let still : (at v : ℕ) → cells_in_range (chip_of model) (write_of (chip_of model) cells at v) ≡ true = λ at v. ranged_once (chip_of model) cells at v r in
      record {
        shown = shown cells r;
        narrow = narrow cells r;
        own = λ k v h l. shown _ (still (port_at k) v) k h ∙ same (chip_of model) cells (port_at k) v l;
        other = λ k at v h n. shown _ (still at v) k h ∙ other (chip_of model) cells at v (port_at k) n ∙ sym (shown cells r k h);
        elsewhere = elsewhere cells;
      }
