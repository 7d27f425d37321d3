-- A flow that one word has: a comparison with that word tells it. The word is one of opcode 7; that no other has the flow is tested at
-- each opcode, and at each of the 2,048 sub-words of opcode 7.
-- Assumes nothing.
use Rattle.std.proofs.Common.{◌≡◌, ℕ, ◌+◌, ◌*◌, ◌/◌, ◌%◌, ◌<◌, Bool, true, false, not, ◌||◌, T, eqb, sym, refl, ap, ◌∙◌, subst, arith, eqb→eq, T_not, eq-eqb, ne_eqb}
use Rattle.laws.specs.Every.{every}
use Rattle.laws.proofs.Every.{every_at_lem, passed}
use Rattle.isa.specs.Decode.{decode_of, group_of, entry_of, overview, columns}
use Rattle.isa.proofs.Group.{sub_m, sub_x}
use Rattle.peripherals.specs.Registers.{in_file, is_control}
use Rattle.peripherals.specs.Table.{control_registers}
use Rattle.control.specs.Flow.{decoded_flow, reads_table, word_flow}
use Rattle.control.specs.declared.Flow.{Flow}

-- a test passes at one number below n at most
abbrev pub Only : (ℕ → Bool) → ℕ → ℕ → Type 0
Only f at n = T (every (λ (k : ℕ). eqb k at || not (f k)) n)

only : (f : ℕ → Bool) (at n : ℕ) → Only f at n → (k : ℕ) → k < n → T (f k) → k ≡ at
only f at n t k h p =
    eqb→eq k at (or_first (eqb k at) (f k) (every_at_lem (λ (j : ℕ). eqb j at || not (f j)) n t k h) p)
  where
    or_first : (a b : Bool) → T (a || not b) → T b → T a
    or_first true b s q = tt
    or_first false b s q = absurd (T_not b s q)

-- what is tested of a flow and its sub_word
pub record One (is : Flow → Bool) (sub : ℕ) : Type 0 where
  pub opcode : (m x addr : ℕ) → Only (λ (k : ℕ). is (decoded_flow (entry_of k m x addr))) 7 32
  pub sub_word : Only (λ (k : ℕ). is (decoded_flow (group_of (k / 16) (k % 16)))) sub 2048
  pub has : T (is (word_flow (7 * 2048 + sub)))

module _ (is : Flow → Bool) (sub : ℕ) (one : One is sub) where
  found : (w : ℕ) → w < 65536 → T (is (word_flow w)) → w ≡ 7 * 2048 + sub
  unfolding decode_of entry_of overview
  found w h t =
      let m = w / 16 % 128 in
      let x = w % 16 in
      let addr = w % 2048 in
      let op : w / 2048 ≡ 7 = only (λ (k : ℕ). is (decoded_flow (entry_of k m x addr))) 7 32 (one.opcode m x addr) (w / 2048) (omega arith) t in
      let grouped : T (is (decoded_flow (group_of m x))) = subst (λ (k : ℕ). T (is (decoded_flow (entry_of k m x addr)))) op t in
      let e : w % 2048 ≡ sub = only (λ (k : ℕ). is (decoded_flow (group_of (k / 16) (k % 16)))) sub 2048 one.sub_word (w % 2048) (omega arith) (rw (← sub_m w, ← sub_x w) grouped) in
      omega arith

  told : (w : ℕ) (b : Bool) → w < 65536 → is (word_flow w) ≡ b → eqb w (7 * 2048 + sub) ≡ b
  told w true h e = eq-eqb w (7 * 2048 + sub) (found w h (passed e))
  told w false h e = ne_eqb w (7 * 2048 + sub) (λ x. subst T (ap (λ (k : ℕ). is (word_flow k)) (sym x) ∙ e) one.has)

  pub one_word : (w : ℕ) → w < 65536 → eqb w (7 * 2048 + sub) ≡ is (word_flow w)
  one_word w h = told w (is (word_flow w)) h refl

-- MOVT
pub movt : One reads_table 0b000_0001_0000
unfolding decode_of entry_of overview columns in_file is_control control_registers
movt = record { opcode = λ m x addr. tt; sub_word = tt; has = tt }
