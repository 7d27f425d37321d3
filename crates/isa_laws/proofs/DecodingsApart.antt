-- Different answers differ in document 01's numbers.
-- Assumes nothing.
use mathlib.Core.Path.{◌≡◌, refl, ap}
use Rattle.std.specs.Prelude.{ℕ, Option, None, Some, Result, Ok, Err}
use native.Mathlib.Omega.{arith}
use Rattle.isa.specs.Answers.{Encoding, decoding_of, encoding_of}
use Rattle.isa_laws.specs.DecodingsApart.{DecodingsApart}
use Rattle.isa.specs.declared.Instruction.{Instruction}
use Rattle.isa.specs.declared.TooLarge.{TooLarge}

decodings : (a b : Option Instruction) → decoding_of a ≡ decoding_of b → a ≡ b
decodings (Some i) (Some j) e = cc
decodings (Some i) None e = cc
decodings None (Some j) e = cc
decodings None None e = refl

encodings : (a b : Result ℕ TooLarge) → encoding_of a ≡ encoding_of b → a ≡ b
encodings (Ok v) (Ok w) e = ap Ok (ap (λ (x : Encoding). x.word) e)
encodings (Ok v) (Err d) e = absurd (let z : ◌≡◌ {A = ℕ} 0 10 = ap (λ (x : Encoding). x.refusal) e in omega arith)
encodings (Err c) (Ok w) e = absurd (let z : ◌≡◌ {A = ℕ} 10 0 = ap (λ (x : Encoding). x.refusal) e in omega arith)
encodings (Err c) (Err d) e = refl

pub decodings_apart : DecodingsApart
decodings_apart = record { decoded = decodings; encoded = encodings }
