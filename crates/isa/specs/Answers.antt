-- What the decoder and the encoder answer, in the numbers of document 01, "Refusal numbers".
-- Assumes nothing.
use Rattle.std.specs.Prelude.{ℕ, Option, None, Some, Result, Ok, Err}
use Rattle.isa.specs.declared.Instruction.{Instruction}
use Rattle.isa.specs.declared.TooLarge.{TooLarge}

-- a word is an instruction, or is refused with a number
pub data Decoding : Type 0 where
  is : Instruction → Decoding
  refused : ℕ → Decoding

-- refusal 3: the word is no instruction
abbrev pub decoding_of : Option Instruction → Decoding
decoding_of (Some i) = is i
decoding_of None = refused 3

-- an instruction has a word, with refusal 0 for none, or is refused
pub record Encoding : Type 0 where
  pub refusal : ℕ
  pub word : ℕ

-- refusal 10: an operand too large for its field; the word is then 0
abbrev pub encoding_of : Result ℕ TooLarge → Encoding
encoding_of (Ok w) = record { refusal = 0; word = w }
encoding_of (Err e) = record { refusal = 10; word = 0 }
