-- The numbers that stand for the answers of the decoder and the encoder tell them apart.
-- Assumes nothing.
use Rattle.std.specs.Prelude.{◌≡◌, ℕ, Option, Result}
use Rattle.isa.specs.Answers.{decoding_of, encoding_of}
use Rattle.isa.specs.declared.Instruction.{Instruction}
use Rattle.isa.specs.declared.TooLarge.{TooLarge}

-- what stands for each answer loses nothing
pub record DecodingsApart : Type 0 where
  pub decoded : (a b : Option Instruction) → decoding_of a ≡ decoding_of b → a ≡ b
  pub encoded : (a b : Result ℕ TooLarge) → encoding_of a ≡ encoding_of b → a ≡ b
