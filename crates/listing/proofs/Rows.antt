-- What holds of each row, computed over the list.
-- Assumes nothing.
use Rattle.std.proofs.Common.{◌≡◌, ℕ, ◌%◌, ◌<◌, true, List, map, length, get_or, arith, sym, refl, ap, ◌∙◌, mod-eq_of_lt}
use lib.ListN.{get_or-map}
use Rattle.laws.proofs.Every.{holds}
use Rattle.laws.proofs.Lists.{slice_index_inside}
use Rattle.isa_laws.proofs.Forth.{forth}
use Rattle.isa.specs.Encode.{word_of, fits}
use Rattle.isa.specs.declared.FixedOp.TheVariants.{Nop}
use Rattle.listing.specs.declared.table.Fields.{Fields}
use Rattle.listing.specs.declared.table.Pattern.{Pattern}
use Rattle.listing.specs.Patterns.{pattern_of, join_of}
use Rattle.listing.specs.Table.{Row, plain, listing, row_at, fields, fields_in}
use Rattle.listing.proofs.Formats.{word_in, in_range, Fit, come_back, adds}

at_row : {A : Type 0} (f : Row → A) (k : ℕ) (d : A) → k < 47 → get_or (map f listing) k d ≡ f (row_at k)
unfolding listing
at_row f k d h = slice_index_inside (map f listing) k d (f (plain Nop)) h ∙ get_or-map f listing k (plain Nop)

-- an element of the code's table
pub element_of : (l : List Pattern) (k : ℕ) (d : Pattern) → l ≡ map pattern_of listing → k < 47 → get_or l k d ≡ pattern_of (row_at k)
element_of l k d e h = ap (λ (x : List Pattern). get_or x k d) e ∙ at_row pattern_of k d h

-- the same at a number that is the row's
pub element_at : (l : List Pattern) (n k : ℕ) (d : Pattern) → l ≡ map pattern_of listing → n ≡ k → k < 47 → get_or l n d ≡ pattern_of (row_at k)
element_at l n k d e q h = ap (λ (m : ℕ). get_or l m d) q ∙ element_of l k d e h

pub all_rows : (l : List Pattern) → l ≡ map pattern_of listing → length l ≡ 47
unfolding listing
all_rows l e = ap length e

-- what stands in the code's table at k is the pattern of row k
pub its_pattern : (l : List Pattern) (n k : ℕ) (p : Pattern) → l ≡ map pattern_of listing → n ≡ k → n < length l → p ≡ get_or l n p
    → (k < 47) × (p ≡ pattern_of (row_at k))
its_pattern l n k p e q h at =
    let all = all_rows l e in
    let inside : k < 47 = omega (arith, all) in
    (inside, at ∙ element_at l n k p e q inside)

-- what two functions make of the list they make of each row
each : {A : Type 0} (f g : Row → A) → map f listing ≡ map g listing → (k : ℕ) → k < 47 → f (row_at k) ≡ g (row_at k)
each {A} f g e k h =
    let d = f (row_at k) in
    sym (at_row f k d h) ∙ ap (λ (l : List A). get_or l k d) e ∙ at_row g k d h

abbrev pub bits_of : Row → ℕ
bits_of r = (pattern_of r).0

module _ (k : ℕ) (h : k < 47) (o : Fields) where
  pub word_of_lem : word_of ((row_at k).instruction o) ≡ word_in (row_at k).format (bits_of (row_at k)) o
  unfolding listing word_of
  word_of_lem = each (λ (r : Row). word_of (r.instruction o)) (λ (r : Row). word_in r.format (bits_of r) o) refl k h

  pub range_of : fits ((row_at k).instruction o) ≡ in_range (row_at k).format o
  unfolding listing fits
  range_of = each (λ (r : Row). fits (r.instruction o)) (λ (r : Row). in_range r.format o) refl k h

-- operands that fit: what the code joins is the word, and they come back from it
module _ (k : ℕ) (h : k < 47) (o : Fields) (f : Fit (row_at k).format o) where
  pub fitting : fits ((row_at k).instruction o) ≡ true
  fitting = range_of k h o ∙ holds f.1

  pub joins : join_of (pattern_of (row_at k)) o ≡ word_of ((row_at k).instruction o)
  joins =
      let e = adds (row_at k).format (bits_of (row_at k)) o (word_of_lem k h (fields 0 0 0)) ∙ sym (word_of_lem k h o) in
      ap (λ (n : ℕ). n % 65536) e ∙ mod-eq_of_lt (forth ((row_at k).instruction o) fitting).0

  pub come_again : fields_in (row_at k).format (word_of ((row_at k).instruction o)) ≡ o
  come_again = ap (fields_in (row_at k).format) (word_of_lem k h o) ∙ come_back (row_at k).format (bits_of (row_at k)) o f
