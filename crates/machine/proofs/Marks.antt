-- A mark as the code tests it.
-- Assumes nothing.
use mathlib.Core.Path.{◌≡◌, ap}
use mathlib.Core.Bool.{true, false, not}
use Prim.Native.Nat.{ℕ}
use borrow.Author.Tests.{eq-eqb, ne_eqb}
use Rattle.machine.specs.Parts.{is_marked}

pub is_marked_lem : (mark : ℕ) → (mark ≡ 0 → ⊥) → is_marked mark ≡ true
is_marked_lem mark n = ap not (ne_eqb mark 0 n)

pub not_marked : (mark : ℕ) → mark ≡ 0 → is_marked mark ≡ false
not_marked mark e = ap not (eq-eqb mark 0 e)
