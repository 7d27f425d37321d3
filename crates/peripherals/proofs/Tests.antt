-- The range test, register by register.
-- Assumes nothing.
use Rattle.std.proofs.Common.{◌≡◌, ℕ, ◌+◌, ◌<◌, true, false, ltb, List, get_or, sym, ◌∙◌, add-one, lt-ltb, eq-eqb, ne_eqb}
use mathlib.Core.Bool.{and-true, false≢true}
use lib.Bits.{bit_and}
use Rattle.laws.specs.Every.{every}
use Rattle.laws.proofs.Booleans.{not_passed}
use Rattle.laws.proofs.Every.{every_at_lem, passed, holds}
use Rattle.peripherals.specs.Range.{register_in_range, peripherals_in_range}
use Rattle.peripherals.specs.Table.{stays_at}
use Rattle.peripherals.specs.declared.Peripherals.{Peripherals}

module _ (registers : List ℕ) (k : ℕ) where
  pub one_more : bit_and (get_or registers k 0) (stays_at k) ≡ get_or registers k 0 → every (register_in_range registers) k ≡ true
      → every (register_in_range registers) (k + 1) ≡ true
  one_more e h = rw (add-one k, eq-eqb _ _ e) h

  pub one_fails : (bit_and (get_or registers k 0) (stays_at k) ≡ get_or registers k 0 → ⊥) → k < 7
      → every (register_in_range registers) 7 ≡ false
  one_fails n h =
      not_passed (every (register_in_range registers) 7) (λ t.
      false≢true (sym (ne_eqb _ _ n) ∙ holds (every_at_lem (register_in_range registers) 7 (passed t) k h)))

module _ (p : Peripherals) where
  pub out : every (register_in_range p.registers) 7 ≡ false → false ≡ peripherals_in_range p
  unfolding peripherals_in_range
  out e = rw e

  pub rest : every (register_in_range p.registers) 7 ≡ true → p.counter < 256 → p.modulo < 256
      → ltb p.divider 128 ≡ peripherals_in_range p
  unfolding peripherals_in_range
  rest e c m = rw (e, lt-ltb _ _ c, lt-ltb _ _ m) (sym (and-true (ltb p.divider 128)))
