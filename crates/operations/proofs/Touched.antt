-- Which cells writes touch: their addresses tell, whatever is written.
-- Assumes nothing.
use mathlib.Core.Path.{◌≡◌, ◌∙◌, ap, refl, sym}
use mathlib.Core.Bool.{Bool, true, false, ◌||◌, cond, or-false, or_self, beq}
use mathlib.Core.List.{List, [], ◌∷◌}
use Prim.Native.Nat.{ℕ, ◌<◌}
use borrow.Author.Tests.{eqb-true}
use lib.Dec.{T, eqb}
use Rattle.laws.specs.Every.{every}
use Rattle.laws.proofs.Every.{every_at_lem}
use Rattle.memory.specs.Names.{AR3, AR0, DBF3, DBF1, DBF0, IXH, IXL, PSW}
use Rattle.memory.specs.Registers.{ar_writes, buffer_writes, increment_ix, low_byte_writes}
use Rattle.memory.specs.Write.{◌↤◌, touches}
use Rattle.operations.specs.Writes.{from_to}

-- two tests that agree below a bound
pub agree : (f g : ℕ → Bool) (n : ℕ) → T (every (λ (k : ℕ). beq (f k) (g k)) n) → (k : ℕ) → k < n → f k ≡ g k
agree f g n t k h = same (f k) (g k) (every_at_lem (λ (j : ℕ). beq (f j) (g j)) n t k h)
  where
    same : (a b : Bool) → T (beq a b) → a ≡ b
    same true true u = refl
    same true false u = absurd u
    same false true u = absurd u
    same false false u = refl

pub one_write : (at v k : ℕ) → touches ((at ↤ v) ∷ []) k ≡ eqb k at
one_write at v k = or-false (eqb k at)

-- a result that goes to 7FH itself, and one that goes elsewhere
pub with_flags : (at k v w x : ℕ) (b : Bool) → eqb at PSW ≡ b
    → touches (cond b ((PSW ↤ v) ∷ []) ((at ↤ w) ∷ (PSW ↤ x) ∷ [])) k ≡ (eqb k at || eqb k PSW)
with_flags at k v w x true e = or-false (eqb k PSW) ∙ (rw (eqb-true at PSW e) (sym (or_self (eqb k PSW))))
with_flags at k v w x false e = ap (λ (c : Bool). eqb k at || c) (or-false (eqb k PSW))

-- the cells of a register
pub ar_touched : (v k : ℕ) → k < 256 → touches (ar_writes v) k ≡ from_to AR3 AR0 k
ar_touched v = agree (touches (ar_writes v)) (from_to AR3 AR0) 256 tt

pub ix_touched : (cells : List ℕ) (k : ℕ) → k < 256 → touches (increment_ix cells) k ≡ from_to IXH IXL k
ix_touched cells = agree (touches (increment_ix cells)) (from_to IXH IXL) 256 tt

pub buffer_touched : (v k : ℕ) → k < 256 → touches (buffer_writes v) k ≡ from_to DBF3 DBF0 k
buffer_touched v = agree (touches (buffer_writes v)) (from_to DBF3 DBF0) 256 tt

pub low_byte_touched : (v k : ℕ) → k < 256 → touches (low_byte_writes v) k ≡ from_to DBF1 DBF0 k
low_byte_touched v = agree (touches (low_byte_writes v)) (from_to DBF1 DBF0) 256 tt
