-- A word that is an instruction is that instruction's word: tested at each of the 65,536 words.
-- Assumes nothing.
use mathlib.Core.Path.{◌≡◌, subst}
use mathlib.Core.Bool.{Bool, true, ◌&&◌}
use Prim.Native.Nat.{ℕ, ◌<◌}
use lib.Dec.{T, eqb, eqb→eq}
use Rattle.laws.proofs.Every.{every_at_lem, and_left, and_right, holds}
use Rattle.isa.specs.Answers.{Decoding, is, refused}
use Rattle.isa.specs.Decode.{decode_of, entry_of, overview, columns}
use Rattle.isa.specs.Encode.{word_of, fits}
use Rattle.isa.specs.declared.Instruction.{Instruction}

abbrev its_word : ℕ → Decoding → Bool
its_word w (is i) = eqb (word_of i) w && fits i
its_word w (refused n) = true

pub back : (w : ℕ) (i : Instruction) → w < 65536 → decode_of w ≡ is i → (word_of i ≡ w) × (fits i ≡ true)
unfolding decode_of entry_of overview columns word_of fits
back w i h e =
    let t : T (eqb (word_of i) w && fits i)
    = subst (λ (d : Decoding). T (its_word w d)) e (every_at_lem (λ (v : ℕ). its_word v (decode_of v)) 65536 tt w h) in
    (eqb→eq (word_of i) w (and_left (eqb (word_of i) w) (fits i) t), holds (and_right (eqb (word_of i) w) (fits i) t))
