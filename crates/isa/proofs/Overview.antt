-- The opcodes as the decoder reads them, and what is left.
-- Assumes nothing.
use mathlib.Core.Path.{◌≡◌, refl}
use mathlib.Core.List.{List, [], ◌∷◌}
use Prim.Native.Nat.{ℕ, ◌+◌, ◌/◌, ◌<◌}
use native.Mathlib.Omega.{arith}
use Rattle.laws.proofs.Arms.{Rest, singly, in_rest}
use Rattle.isa.proofs.None.{is_none, is_none_lem}
use Rattle.isa.specs.Answers.{is}
use Rattle.isa.specs.Decode.{entry_of, overview, none}
use Rattle.isa.specs.Encode.{alu_code, word_of}
use Rattle.isa.specs.declared.AluOp.{AluOp}
use Rattle.isa.specs.declared.AluOp.TheVariants.{Add, AddC, Sub, SubC, Or, And, Xor}
use Rattle.isa.specs.declared.Instruction.TheVariants.{AluRegister, AluImmediate}

pub op_below : (w : ℕ) → w < 65536 → w / 2048 < 32
op_below w h = omega arith

module _ (m x addr : ℕ) where
  pub register_at : (op : AluOp) → is (AluRegister op x m) ≡ entry_of (alu_code op) m x addr
  unfolding entry_of overview word_of
  register_at Add = refl
  register_at AddC = refl
  register_at Sub = refl
  register_at SubC = refl
  register_at Or = refl
  register_at And = refl
  register_at Xor = refl

  pub immediate_at : (op : AluOp) → is (AluImmediate op m x) ≡ entry_of (16 + alu_code op) m x addr
  unfolding entry_of overview word_of
  immediate_at Add = refl
  immediate_at AddC = refl
  immediate_at Sub = refl
  immediate_at SubC = refl
  immediate_at Or = refl
  immediate_at And = refl
  immediate_at Xor = refl

-- the decoder's arms, the last one first
abbrev pub keys : List (List ℕ)
keys =
    singly
    (31 ∷ 30 ∷ 29 ∷ 28 ∷ 27 ∷ 26 ∷ 25 ∷ 24 ∷ 22 ∷ 21 ∷ 20 ∷ 19 ∷ 18 ∷ 17 ∷ 16
    ∷ 12 ∷ 11 ∷ 10 ∷ 9 ∷ 8 ∷ 7 ∷ 6 ∷ 5 ∷ 4 ∷ 3 ∷ 2 ∷ 1 ∷ 0 ∷ [])

-- what no arm takes is no instruction: tested at each of the 32 opcodes
pub unlisted : (m x addr n : ℕ) → n < 32 → Rest keys n → none ≡ entry_of n m x addr
unfolding entry_of overview
unlisted m x addr n h r =
    is_none_lem (entry_of n m x addr)
    (in_rest keys [] (λ (k : ℕ). is_none (entry_of k m x addr)) 32 tt n h r tt)
