-- The arms by which the flow of a word is told, and what is left: no instruction.
-- Assumes nothing.
use Rattle.std.proofs.Common.{◌≡◌, ℕ, zero, suc, ◌/◌, ◌%◌, ◌<◌, ◌≤◌, Bool, ◌||◌, T, ltb, leb, List, [], ◌∷◌, get_or, refl, ap, arith, ltb→lt, leb→le}
use mir.Val.{has_key}
use types.Run.{hit}
use Rattle.laws.specs.Every.{every}
use Rattle.laws.proofs.Arms.{Rest, singly, has_any, or_else, no_key, in_arm, in_rest}
use Rattle.laws.proofs.Every.{every_at_lem}
use Rattle.isa.specs.Answers.{Decoding}
use Rattle.isa.specs.Decode.{columns, rows, group_of, entry_of, overview}
use Rattle.isa.proofs.None.{is_none, is_none_lem}
use Rattle.machine.specs.declared.Refusal.TheVariants.{NoInstruction}
use Rattle.control.specs.Flow.{decoded_flow}
use Rattle.control.specs.declared.Flow.{Flow}
use Rattle.control.specs.declared.Flow.TheVariants.{Onward, Refused}

-- what is no instruction is refused
refused : (d : Decoding) → T (is_none d) → Refused NoInstruction ≡ decoded_flow d
refused d t = ap decoded_flow (is_none_lem d t)

-- the flow at a column, and at a row and column
abbrev pub column_flow : ℕ → ℕ → ℕ → Flow
column_flow m x column = decoded_flow (get_or columns column (rows []) (m / 16) x)

abbrev pub group_flow : ℕ → ℕ → Flow
group_flow x m = decoded_flow (group_of m x)

-- the arms of opcode 7, the last one first: the columns, then those of any low nibble, then those of 0
abbrev column_keys : List (List ℕ)
column_keys = singly (0b1011 ∷ 0b1010 ∷ 0b0011 ∷ 0b0010 ∷ [])

abbrev operand_keys : List (List ℕ)
operand_keys = singly (0b011_1111 ∷ 0b010_1111 ∷ 0b000_0111 ∷ [])

abbrev fixed_keys : List (List ℕ)
fixed_keys =
    (0b100_1111 ∷ [])
    ∷ (0b000_1111 ∷ 0b001_1111 ∷ 0b100_1110 ∷ [])
    ∷ singly
    (0b001_1110 ∷ 0b000_1110 ∷ 0b000_1101 ∷ 0b000_1100 ∷ 0b000_1001 ∷ 0b000_1000 ∷ 0b000_0101 ∷ 0b000_0100 ∷ 0b000_0001 ∷ [])

module _ (m : ℕ) (small : m < 128) (rc : Rest column_keys (m % 16)) (ro : Rest operand_keys m) where
  -- a test that passes wherever no arm so far takes the row and column
  left : (b : Bool) → T (has_any operand_keys m || (has_any column_keys (m % 16) || b)) → T b
  left b t =
      or_else (has_any column_keys (m % 16)) b (no_key column_keys (m % 16) rc) (or_else (has_any operand_keys m) _ (no_key operand_keys m ro) t)

  pub other_nibble : (x : ℕ) → x < 16 → (x ≡ 0 → ⊥) → Refused NoInstruction ≡ group_flow x m
  unfolding columns
  other_nibble zero h n = absurd (n refl)
  other_nibble (suc y) h n =
      let test : ℕ → ℕ → Bool = λ k j. has_any operand_keys k || (has_any column_keys (k % 16) || is_none (group_of k (suc j))) in
      refused (group_of m (suc y)) (left _ (every_at_lem (test m) 15 (every_at_lem (λ (k : ℕ). every (test k) 15) 128 tt m small) y (omega arith)))

  pub other_fixed : Rest fixed_keys m → Refused NoInstruction ≡ group_flow 0 m
  unfolding columns
  other_fixed rf =
      refused (group_of m 0)
      (left _ (in_rest fixed_keys [] (λ (k : ℕ). has_any operand_keys k || (has_any column_keys (k % 16) || is_none (group_of k 0))) 128 tt m small rf tt))

-- the arms of the opcodes, the last one first
abbrev opcode_keys : List (List ℕ)
opcode_keys =
    (28 ∷ []) ∷ (12 ∷ []) ∷ (31 ∷ []) ∷ (9 ∷ 11 ∷ 25 ∷ 27 ∷ 30 ∷ []) ∷ (8 ∷ 10 ∷ 24 ∷ 26 ∷ 29 ∷ []) ∷ (7 ∷ []) ∷ []

abbrev arithmetic : List ℕ
arithmetic = 0 ∷ 1 ∷ 2 ∷ 3 ∷ 4 ∷ 5 ∷ 6 ∷ 16 ∷ 17 ∷ 18 ∷ 19 ∷ 20 ∷ 21 ∷ 22 ∷ []

-- the flow at an opcode, whatever the rest of the word
abbrev pub flow_by : ℕ → ℕ → ℕ → ℕ → Flow
flow_by m x addr op = decoded_flow (entry_of op m x addr)

module _ (m x addr op : ℕ) (small : op < 32) where
  pub arithmetic_flow : op % 16 < 7 → Onward ≡ flow_by m x addr op
  unfolding entry_of overview
  arithmetic_flow h =
      in_arm (flow_by m x addr) Onward arithmetic refl op
      (hit arithmetic op
      (or_else (leb 7 (op % 16)) (has_key arithmetic op) (λ t. let l = leb→le 7 (op % 16) t in omega arith)
      (every_at_lem (λ (k : ℕ). leb 7 (k % 16) || has_key arithmetic k) 32 tt op small)))

  pub other_opcode : 7 ≤ op % 16 → Rest opcode_keys op → Refused NoInstruction ≡ flow_by m x addr op
  unfolding entry_of overview
  other_opcode h r =
      refused (entry_of op m x addr)
      (or_else (ltb (op % 16) 7) _ (λ t. let l = ltb→lt (op % 16) 7 t in omega arith)
      (in_rest opcode_keys [] (λ (k : ℕ). ltb (k % 16) 7 || is_none (entry_of k m x addr)) 32 tt op small r tt))
