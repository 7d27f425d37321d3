-- The theorems of specs/Agreement.antt.
-- Assumes nothing.
use Rattle.std.proofs.Common.{◌≡◌, ℕ, ◌<◌, Bool, true, false, not, ltb, sym, refl, ap, ◌∙◌, subst, arith, ltb→lt, eq-eqb, eqb-true}
use Rattle.laws.proofs.Every.{passed, holds}
use Rattle.isa.specs.Answers.{Decoding, is, refused}
use Rattle.isa.specs.Decode.{decode_of}
use Rattle.isa.specs.Encode.{word_of, fits}
use Rattle.isa.specs.declared.Instruction.{Instruction}
use Rattle.isa_laws.proofs.Back as Words
use Rattle.isa_laws.proofs.Forth.{forth}
use Rattle.listing.specs.declared.DecodedRow.{DecodedRow}
use Rattle.listing.specs.declared.EncodedRow.{EncodedRow}
use Rattle.listing.specs.declared.table.Fields.{Fields}
use Rattle.listing.specs.Agreement.{Makes, OneRow, One, None, Again, Back}
use Rattle.listing.specs.Rows.{listed, refused_word, stands, decoded_row_of, encoded, refused_row, encoded_row_of}
use Rattle.listing.specs.Table.{row_at, fields, fields_in}
use Rattle.listing.proofs.Formats.{Fit, in_fit, matched, made}
use Rattle.listing.proofs.Rows.{bits_of, word_of_lem, range_of, fitting, come_again}
use Rattle.listing.proofs.Search as Search
use Rattle.listing.proofs.Unique.{row, only, below, has_bits, three}
use Rattle.listing.proofs.Words.{has_word, by_fit}

-- the instruction of row k with what stands in a word
abbrev read : ℕ → ℕ → Instruction
read w k = (row_at k).instruction (fields_in (row_at k).format w)

module _ (w : ℕ) (h : w < 65536) where
  its_row : (k : ℕ) → k < 47 → stands w (row_at k) ≡ true → row w h ≡ k
  its_row k l e =
      only w h k l (matched (bits_of (row_at k)) w (row_at k).format
      (sym (word_of_lem k l (fields_in (row_at k).format w)) ∙ eqb-true (word_of (read w k)) w e))

  -- the row in which it stands is the first
  listed_in : (k : ℕ) → k < 47 → stands w (row_at k) ≡ true → decoded_row_of w ≡ listed k (fields_in (row_at k).format w)
  listed_in k l e = sym (Search.found w k l (λ i a b. before i b (stands w (row_at i)) refl) e)
    where
      before : (i : ℕ) → i < k → (b : Bool) → stands w (row_at i) ≡ b → Search.absent w i ≡ true
      before i b true f = absurd (omega (arith, its_row i (omega arith) f, its_row k l e))
      before i b false f = ap not f

  -- and the word is its instruction
  read_as : (k : ℕ) → k < 47 → stands w (row_at k) ≡ true → decode_of w ≡ is (read w k)
  read_as k l e =
      let ok = fitting k l (fields_in (row_at k).format w) (in_fit w (row_at k).format) in
      subst (λ (v : ℕ). decode_of v ≡ is (read w k)) (eqb-true (word_of (read w k)) w e) (forth (read w k) ok).1

  module _ (i : Instruction) (d : decode_of w ≡ is i) where
    abbrev k : ℕ
    k = row w h

    standing : stands w (row_at k) ≡ true
    standing =
        eq-eqb (word_of (read w k)) w
        (word_of_lem k (below w h i d) (fields_in (row_at k).format w) ∙ made (bits_of (row_at k)) w (row_at k).format (has_bits w h i d))

    makes : Makes k (fields_in (row_at k).format w) i
    makes = record {
      below = below w h i d;
      unused = holds (in_fit w (row_at k).format).0;
      instruction = let e = read_as k (below w h i d) standing in cc;
    }

    encodes : (k : ℕ) (o : Fields) → Makes k o i → encoded_row_of k o ≡ encoded w
    encodes k o m =
        let b = Words.back w i h d in
        let t = passed (sym (range_of k m.below o) ∙ ap fits m.instruction ∙ b.1) in
        has_word k m.below o (passed m.unused, t) ∙ ap encoded (ap word_of m.instruction ∙ b.0)

  no_row : (n : ℕ) → decode_of w ≡ refused n → decoded_row_of w ≡ refused_word n
  no_row n d = rw (three w h n d) (sym (Search.none w (λ k a l. absent_at k l (stands w (row_at k)) refl)))
    where
      absent_at : (k : ℕ) → k < 47 → (b : Bool) → stands w (row_at k) ≡ b → Search.absent w k ≡ true
      absent_at k l true e = absurd (let q = read_as k l e in let z : ◌≡◌ {A = ℕ} 0 1 = cc in omega arith)
      absent_at k l false e = ap not e

-- a row with operands that fit is the row of its word
module _ (row : ℕ) (h : row < 47) (o : Fields) (t : Fit (row_at row).format o) where
  listed_as : decoded_row_of (word_of ((row_at row).instruction o)) ≡ listed row o
  listed_as =
      let w = word_of ((row_at row).instruction o) in
      let q : fields_in (row_at row).format w ≡ o = come_again row h o t in
      let s : stands w (row_at row) ≡ true = eq-eqb (word_of (read w row)) w (ap (λ (x : Fields). word_of ((row_at row).instruction x)) q) in
      listed_in w (forth ((row_at row).instruction o) (fitting row h o t)).0 row h s ∙ ap (listed row) q

not_encoded : (n w : ℕ) → 0 < n → refused_row n ≡ encoded w → ⊥
not_encoded n w h e = let z : n ≡ 0 = ap (λ (x : EncodedRow). x.number) e in omega arith

made_back : (w row : ℕ) (o : Fields) → encoded_row_of row o ≡ encoded w → decoded_row_of w ≡ listed row o
unfolding encoded_row_of
made_back w row o e = by_row (ltb row 47) refl
  where
    by_row : (a : Bool) → ltb row 47 ≡ a → decoded_row_of w ≡ listed row o
    by_row true l =
        let h : row < 47 = ltb→lt row 47 (passed l) in
        by_fit row h o
        (λ t.
        subst (λ (v : ℕ). decoded_row_of v ≡ listed row o) (ap (λ (x : EncodedRow). x.word) (sym (has_word row h o t) ∙ e))
        (listed_as row h o t))
        (λ n. absurd (not_encoded 10 w (omega arith) (sym n ∙ e)))
    by_row false l =
        let n : encoded_row_of row o ≡ refused_row 1 = rw l in
        absurd (not_encoded 1 w (omega arith) (sym n ∙ e))

one_row : (w : ℕ) (i : Instruction) → w < 65536 → decode_of w ≡ is i → OneRow w i
one_row w i h d =
    let k : ℕ = row w h in
    record {
      row = k;
      operands = fields_in (row_at k).format w;
      decoded = listed_in w h k (below w h i d) (standing w h i d);
      makes = makes w h i d;
      only = λ j o m. made_back w j o (encodes w h i d j o m);
    }

listed_again : (w row : ℕ) (o : Fields) → w < 65536 → decoded_row_of w ≡ listed row o → encoded_row_of row o ≡ encoded w
listed_again w row o h e = by_word (decode_of w) refl
  where
    by_word : (d : Decoding) → decode_of w ≡ d → encoded_row_of row o ≡ encoded w
    by_word (is i) d =
        let r = one_row w i h d in
        let q : listed r.row r.operands ≡ listed row o = sym r.decoded ∙ e in
        subst (λ (x : DecodedRow). encoded_row_of x.row (fields x.first x.second x.addr) ≡ encoded w) q
        (encodes w h i d r.row r.operands r.makes)
    by_word (refused n) d =
        let z : n ≡ 0 = ap (λ (x : DecodedRow). x.number) (sym (no_row w h n d) ∙ e) in
        absurd (omega (arith, three w h n d))

pub one : One
one w i h d = one_row w i h d

pub none : None
none w n h d = no_row w h n d

pub again : Again
again w row o h e = listed_again w row o h e

pub back : Back
back w row o e = made_back w row o e
