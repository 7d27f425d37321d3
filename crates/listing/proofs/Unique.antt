-- A word has the own bits of at most one row, and of one where it is an instruction: by opcode, and the words of opcode 7 one by one.
-- Assumes nothing.
use Rattle.std.proofs.Common.{◌≡◌, ℕ, ◌+◌, ◌-◌, ◌/◌, ◌%◌, ◌<◌, Bool, true, false, not, ◌&&◌, ◌||◌, T, eqb, ltb, sym, refl, subst, arith, eqb→eq, ltb→lt, eqb-true}
use borrow.Author.Tests.{not-false}
use Rattle.laws.specs.Every.{every}
use Rattle.laws.specs.First.{first_false}
use Rattle.laws.proofs.Every.{every_at_lem, and_left, and_right}
use Rattle.laws.proofs.First.{first_from_lem}
use Rattle.isa.specs.Answers.{Decoding, is, refused}
use Rattle.isa.specs.Decode.{decode_of, entry_of, overview, columns}
use Rattle.isa.specs.Encode.{word_of}
use Rattle.isa.specs.declared.Instruction.{Instruction}
use Rattle.listing.specs.Table.{listing, row_at}
use Rattle.listing.proofs.Formats.{matching}
use Rattle.listing.proofs.Rows.{bits_of}

-- a word with the opcode op has the bits of row k
abbrev has : ℕ → ℕ → ℕ → Bool
has op w k = matching (row_at k).format (bits_of (row_at k)) op w

abbrev other : ℕ → ℕ → ℕ → Bool
other op w k = not (has op w k)

first : (ℕ → Bool) → ℕ
first f = first_false f 47

abbrev is_listed : Decoding → ℕ → Bool
is_listed (is i) row = ltb row 47
is_listed (refused n) row = eqb n 3

-- there is such a row where the word is an instruction, and it is the only one
sound : (ℕ → Bool) → Decoding → Bool
sound f d = let row = first f in is_listed d row && every (λ (k : ℕ). f k || eqb row k) 47

others : (w m x addr op : ℕ) → op < 32 → T (eqb op 7 || sound (other op w) (entry_of op m x addr))
unfolding first sound listing word_of entry_of overview
others w m x addr = every_at_lem (λ (op : ℕ). eqb op 7 || sound (other op w) (entry_of op m x addr)) 32 tt

group : (w : ℕ) → w / 2048 ≡ 7 → T (sound (other 7 w) (decode_of w))
unfolding first sound listing word_of decode_of entry_of overview columns
group w e =
    let at : 14336 + (w - 14336) ≡ w = omega arith in
    subst (λ (v : ℕ). T (sound (other 7 v) (decode_of v))) at
    (every_at_lem (λ (k : ℕ). sound (other 7 (14336 + k)) (decode_of (14336 + k))) 2048 tt (w - 14336) (omega arith))

sound_at : (w : ℕ) → w < 65536 → T (sound (other (w / 2048) w) (decode_of w))
unfolding decode_of
sound_at w h = by_opcode (eqb (w / 2048) 7) refl
  where
    by_opcode : (b : Bool) → eqb (w / 2048) 7 ≡ b → T (sound (other (w / 2048) w) (decode_of w))
    by_opcode true e =
        let q : w / 2048 ≡ 7 = eqb-true (w / 2048) 7 e in
        subst (λ (op : ℕ). T (sound (other op w) (decode_of w))) (sym q) (group w q)
    by_opcode false e =
        subst (λ (b : Bool). T (b || sound (other (w / 2048) w) (decode_of w))) e
        (others w (w / 16 % 128) (w % 16) (w % 2048) (w / 2048) (omega arith))

module _ (w : ℕ) (h : w < 65536) where
  abbrev f : ℕ → Bool
  f = other (w / 2048) w

  abbrev rest : ℕ → Bool
  rest k = f k || eqb (first f) k

  -- the row whose bits it has
  pub row : ℕ
  row = first f

  pub only : (k : ℕ) → k < 47 → has (w / 2048) w k ≡ true → row ≡ k
  unfolding row sound
  only k l e =
      eqb→eq (first f) k
      (subst (λ (b : Bool). T (not b || eqb (first f) k)) e
      (every_at_lem rest 47 (and_right (is_listed (decode_of w) (first f)) (every rest 47) (sound_at w h)) k l))

  in_list : (d : Decoding) → decode_of w ≡ d → T (is_listed d row)
  unfolding row sound
  in_list d e =
      subst (λ (x : Decoding). T (is_listed x (first f))) e
      (and_left (is_listed (decode_of w) (first f)) (every rest 47) (sound_at w h))

  -- an instruction has a row
  module _ (i : Instruction) (d : decode_of w ≡ is i) where
    pub below : row < 47
    below = ltb→lt row 47 (in_list (is i) d)

    pub has_bits : has (w / 2048) w row ≡ true
    unfolding row first
    has_bits = not-false (has (w / 2048) w row) ((first_from_lem f 0 47).fails below)

  pub three : (n : ℕ) → decode_of w ≡ refused n → n ≡ 3
  three n d = eqb→eq n 3 (in_list (refused n) d)
