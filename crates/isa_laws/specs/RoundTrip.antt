-- What words and instructions are to each other. Proved in proofs/RoundTrip.antt.
-- Assumes nothing.
use Rattle.std.specs.Prelude.{◌≡◌, true, ℕ, ◌<◌}
use Rattle.isa.specs.Answers.{is, refused}
use Rattle.isa.specs.Decode.{decode_of}
use Rattle.isa.specs.Encode.{encode_of, fits}
use Rattle.isa.specs.declared.Instruction.{Instruction}

-- the word of an instruction: what the encoder answers, with no refusal
abbrev pub IsWordOf : ℕ → Instruction → Type 0
IsWordOf w i = encode_of i ≡ record { refusal = 0; word = w }

-- an instruction whose operands fit has one word, of 16 bits, which decodes to it, and no other word does
pub record OneWord (i : Instruction) : Type 0 where
  pub word : ℕ
  pub encoded : IsWordOf word i
  pub below : word < 65536
  pub decoded : decode_of word ≡ is i
  pub only : (w : ℕ) → w < 65536 → decode_of w ≡ is i → w ≡ word

-- a word that is an instruction is that instruction's word, and the operands fit
pub record Its (w : ℕ) (i : Instruction) : Type 0 where
  pub word : IsWordOf w i
  pub fitting : fits i ≡ true

-- the three theorems
pub record RoundTrip : Type 0 where
  pub one : (i : Instruction) → fits i ≡ true → OneWord i
  pub its : (w : ℕ) (i : Instruction) → w < 65536 → decode_of w ≡ is i → Its w i
  pub none : (w : ℕ) → decode_of w ≡ refused 3 → (i : Instruction) → IsWordOf w i → ⊥
