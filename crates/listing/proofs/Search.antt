-- The search for the row of a word.
-- Assumes nothing.
use Rattle.std.proofs.Common.{◌≡◌, ℕ, ◌<◌, Bool, true, not, sym, ap, ◌∙◌, zero-le, arith, lt-ltb, eq-eqb, ne_eqb}
use Rattle.laws.proofs.First.{Clear, First, first_is}
use Rattle.isa.specs.Encode.{word_of}
use Rattle.listing.specs.declared.table.Fields.{Fields}
use Rattle.listing.specs.declared.table.Pattern.{Pattern}
use Rattle.listing.specs.Patterns.{pattern_of, join_of, fields_of}
use Rattle.listing.specs.Rows.{listed, refused_word, stands, row_in, decoded_row_of}
use Rattle.listing.specs.Table.{row_at, fields_in}
use Rattle.listing.proofs.Formats.{in_fit}
use Rattle.listing.proofs.Rows.{joins}

module _ (w : ℕ) where
  abbrev pub absent : ℕ → Bool
  absent k = not (stands w (row_at k))

  is_first : (k : ℕ) → First absent 0 47 k → k ≡ row_in w
  unfolding row_in
  is_first k f = first_is absent 0 47 k f

  -- the first row in which it stands
  pub found : (k : ℕ) → k < 47 → Clear absent 0 k → stands w (row_at k) ≡ true → listed k (fields_in (row_at k).format w) ≡ decoded_row_of w
  unfolding decoded_row_of
  found k h c e =
      let q = is_first k (record { low = zero-le; high = omega arith; clear = c; fails = λ _. ap not e }) in
      rw (← q, lt-ltb k 47 h)

  pub none : Clear absent 0 47 → refused_word 3 ≡ decoded_row_of w
  unfolding decoded_row_of
  none c =
      let q = is_first 47 (record { low = zero-le; high = omega arith; clear = c; fails = λ h. absurd (omega arith) }) in
      rw (← q)

  -- what the code compares with the word tells whether it stands in a row
  module _ (k : ℕ) (h : k < 47) (p : Pattern) (o : Fields) (v : ℕ) (ep : p ≡ pattern_of (row_at k)) (eo : o ≡ fields_of p w) (ev : v ≡ join_of p o) where
    operands : o ≡ fields_in (row_at k).format w
    operands = eo ∙ ap (λ (q : Pattern). fields_of q w) ep

    value : v ≡ word_of ((row_at k).instruction (fields_in (row_at k).format w))
    value = ev ∙ (λ i. join_of (ep i) (operands i)) ∙ joins k h (fields_in (row_at k).format w) (in_fit w (row_at k).format)

    pub found_at : Clear absent 0 k → v ≡ w → listed k o ≡ decoded_row_of w
    found_at c e = ap (listed k) operands ∙ found k h c (eq-eqb _ _ (sym value ∙ e))

    pub absent_at : (v ≡ w → ⊥) → absent k ≡ true
    absent_at n = ap not (ne_eqb _ _ (λ e. n (value ∙ e)))
