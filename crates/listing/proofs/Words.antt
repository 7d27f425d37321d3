-- The word of a row with its operands.
-- Assumes nothing.
use Rattle.std.proofs.Common.{◌≡◌, ℕ, ◌<◌, Bool, true, false, ◌&&◌, T, eqb, sym, refl, ap, ◌∙◌, subst, arith, eqb→eq, lt-ltb, le-ltb, eq-eqb, ◌≤◌}
use Rattle.laws.proofs.Every.{and_left, and_right, passed, holds}
use Rattle.isa.specs.Encode.{word_of, encode_of}
use Rattle.listing.specs.declared.table.Fields.{Fields}
use Rattle.listing.specs.declared.table.Format.{Format}
use Rattle.listing.specs.declared.table.Pattern.{Pattern}
use Rattle.listing.specs.Patterns.{pattern_of, join_of, fields_of}
use Rattle.listing.specs.Rows.{unused_zero, encoded, refused_row, encoded_row_of}
use Rattle.listing.specs.Table.{row_at, fields_in}
use Rattle.listing.proofs.Formats.{in_range, Fit, in_fit, same_fields_lem}
use Rattle.listing.proofs.Rows.{range_of, joins, come_again}

-- what `==` of operands answers
abbrev same_fields : Fields → Fields → Bool
same_fields a b = eqb a.first b.first && (eqb a.second b.second && eqb a.addr b.addr)

are_same : (a b : Fields) → T (same_fields a b) → a ≡ b
are_same a b t =
    let rest : Bool = eqb a.second b.second && eqb a.addr b.addr in
    let u = and_right (eqb a.first b.first) rest t in
    same_fields_lem (eqb→eq a.first b.first (and_left (eqb a.first b.first) rest t))
    (eqb→eq a.second b.second (and_left (eqb a.second b.second) (eqb a.addr b.addr) u))
    (eqb→eq a.addr b.addr (and_right (eqb a.second b.second) (eqb a.addr b.addr) u))

same_all : (a : Fields) → same_fields a a ≡ true
same_all a = rw (eq-eqb a.first a.first refl, eq-eqb a.second a.second refl, eq-eqb a.addr a.addr refl)

module _ (k : ℕ) (h : k < 47) (o : Fields) where
  abbrev format : Format
  format = (row_at k).format

  -- operands that fit have the word
  pub has_word : Fit format o → encoded_row_of k o ≡ encoded (word_of ((row_at k).instruction o))
  unfolding encoded_row_of encode_of
  has_word f =
      let a : unused_zero format o ≡ true = holds f.0 in
      let b : in_range format o ≡ true = holds f.1 in
      rw (lt-ltb k 47 h, a, range_of k h o, b)

  -- and any others have none
  pub by_fit : {A : Type 0} → (Fit format o → A) → (encoded_row_of k o ≡ refused_row 10 → A) → A
  unfolding encoded_row_of encode_of
  by_fit {A} fit other = go (unused_zero format o) (in_range format o) refl refl
    where
      go : (a b : Bool) → unused_zero format o ≡ a → in_range format o ≡ b → A
      go true true e f = fit (passed e, passed f)
      go true false e f = other (rw (lt-ltb k 47 h, e, range_of k h o, f))
      go false b e f = other (rw (lt-ltb k 47 h, e))

-- the code's answers: operands that come back from the word have it, and any others do not
module _ (k : ℕ) (h : k < 47) (p : Pattern) (o f : Fields) (v : ℕ) (ep : p ≡ pattern_of (row_at k)) (ev : v ≡ join_of p o) (ef : f ≡ fields_of p v) where
  word : v ≡ join_of (pattern_of (row_at k)) o
  word = ev ∙ ap (λ (q : Pattern). join_of q o) ep

  back : f ≡ fields_in (row_at k).format v
  back = ef ∙ ap (λ (q : Pattern). fields_of q v) ep

  pub is_word : same_fields f o ≡ true → encoded v ≡ encoded_row_of k o
  is_word e =
      let q = sym back ∙ are_same f o (passed e) in
      let t = subst (Fit (row_at k).format) q (in_fit v (row_at k).format) in
      ap encoded (word ∙ joins k h o t) ∙ sym (has_word k h o t)

  pub no_word : same_fields f o ≡ false → refused_row 10 ≡ encoded_row_of k o
  no_word e =
      by_fit k h o
      (λ t.
      let q = back ∙ ap (fields_in (row_at k).format) (word ∙ joins k h o t) ∙ come_again k h o t in
      let a : same_fields f o ≡ true = subst (λ (x : Fields). same_fields x o ≡ true) (sym q) (same_all o) in
      absurd (let z : ◌≡◌ {A = ℕ} 0 1 = cc in omega arith))
      (λ n. sym n)

pub no_row : (k : ℕ) (o : Fields) → 47 ≤ k → refused_row 1 ≡ encoded_row_of k o
unfolding encoded_row_of
no_row k o h = rw (le-ltb k 47 h)
