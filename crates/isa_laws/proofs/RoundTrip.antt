-- The three theorems of specs/RoundTrip.antt.
-- Assumes nothing.
use mathlib.Core.Path.{◌≡◌, refl, ap, sym, subst}
use mathlib.Core.Bool.{Bool, true, false}
use Prim.Native.Nat.{ℕ, ◌<◌}
use native.Mathlib.Omega.{arith}
use Rattle.isa.specs.Answers.{Encoding, is, refused}
use Rattle.isa.specs.Decode.{decode_of}
use Rattle.isa.specs.Encode.{word_of, encode_of, fits, fitted}
use Rattle.isa_laws.specs.RoundTrip.{IsWordOf, OneWord, Its, RoundTrip}
use Rattle.isa.specs.declared.Instruction.{Instruction}
use Rattle.isa_laws.proofs.Back.{back}
use Rattle.isa_laws.proofs.Forth.{forth}

-- an answer without refusal: the operands fit, and the word is the list's
fitted_word : (b : Bool) (v w : ℕ) → fitted b v ≡ record { refusal = 0; word = w } → (b ≡ true) × (v ≡ w)
fitted_word true v w e = (refl, ap (λ (x : Encoding). x.word) e)
fitted_word false v w e = absurd (let z : ◌≡◌ {A = ℕ} 10 0 = ap (λ (x : Encoding). x.refusal) e in omega arith)

pub word_fits : (i : Instruction) (w : ℕ) → IsWordOf w i → (fits i ≡ true) × (word_of i ≡ w)
unfolding encode_of
word_fits i w e = fitted_word (fits i) (word_of i) w e

is_word : (i : Instruction) → fits i ≡ true → IsWordOf (word_of i) i
unfolding encode_of
is_word i ok = rw ok

pub one_word : (i : Instruction) → fits i ≡ true → OneWord i
one_word i ok = record {
  word = word_of i;
  encoded = is_word i ok;
  below = (forth i ok).0;
  decoded = (forth i ok).1;
  only = λ w h e. sym (back w i h e).0;
}

pub its_word_lem : (w : ℕ) (i : Instruction) → w < 65536 → decode_of w ≡ is i → Its w i
its_word_lem w i h e =
    let b = back w i h e in
    record { word = subst (λ (v : ℕ). IsWordOf v i) b.0 (is_word i b.1); fitting = b.1 }

pub none_word : (w : ℕ) → decode_of w ≡ refused 3 → (i : Instruction) → IsWordOf w i → ⊥
none_word w e i h =
    let f = word_fits i w h in
    let d : decode_of w ≡ is i = subst (λ (v : ℕ). decode_of v ≡ is i) f.1 (forth i f.0).1 in
    let z : ◌≡◌ {A = ℕ} 0 1 = cc in
    omega arith

pub round_trip : RoundTrip
round_trip = record { one = one_word; its = its_word_lem; none = none_word }
