-- The list's words (18.3) by family, as the encoder makes them.
-- Assumes nothing.
use mathlib.Core.Path.{◌≡◌, refl}
use Prim.Native.Nat.{ℕ, ◌+◌}
use Rattle.isa.specs.declared.AluOp.{AluOp}
use Rattle.isa.specs.declared.AluOp.TheVariants.{Add, AddC, Sub, SubC, Or, And, Xor}
use Rattle.isa.specs.declared.SkipOp.{SkipOp}
use Rattle.isa.specs.declared.SkipOp.TheVariants.{Skt, Skf, Ske, Skne, Skge, Sklt}
use Rattle.isa.specs.declared.Instruction.TheVariants.{AluRegister, AluImmediate, Skip}
use Rattle.isa.specs.Encode.{word_of, alu_code, skip_code, addressed}

pub register : (op : AluOp) (r m : ℕ) → word_of (AluRegister op r m) ≡ addressed (alu_code op) m r
unfolding word_of
register Add r m = refl
register AddC r m = refl
register Sub r m = refl
register SubC r m = refl
register Or r m = refl
register And r m = refl
register Xor r m = refl

pub immediate : (op : AluOp) (m n4 : ℕ) → word_of (AluImmediate op m n4) ≡ addressed (0b10000 + alu_code op) m n4
unfolding word_of
immediate Add m n4 = refl
immediate AddC m n4 = refl
immediate Sub m n4 = refl
immediate SubC m n4 = refl
immediate Or m n4 = refl
immediate And m n4 = refl
immediate Xor m n4 = refl

pub skip : (op : SkipOp) (m n4 : ℕ) → word_of (Skip op m n4) ≡ addressed (skip_code op) m n4
unfolding word_of
skip Skt m n4 = refl
skip Skf m n4 = refl
skip Ske m n4 = refl
skip Skne m n4 = refl
skip Skge m n4 = refl
skip Sklt m n4 = refl
