-- The numbers of every model, and what a chip that has every cell lacks.
-- Assumes nothing.
use Rattle.std.proofs.Common.{◌≡◌, ℕ, ◌+◌, ◌%◌, ◌^◌, ◌<◌, ◌≤◌, Bool, true, false, not, ◌&&◌, ltb, refl, arith, lit≤, ltb-true}
use Rattle.laws.proofs.Every.{every_at_lem, holds, passed}
use Rattle.laws.proofs.Wrap.{cut}
use Rattle.laws.specs.Wrap.{wrap_next}
use Rattle.memory.specs.Chip.{Chip, chip_of, is_missing, is_whole}
use Rattle.memory.specs.declared.Model.{Model}
use Rattle.memory.specs.declared.Model.TheVariants.{Upd17132, Upd17120}

-- the record has places for the levels of each
pub levels_fit : (model : Model) → (chip_of model).levels ≤ 5
levels_fit Upd17132 = omega arith
levels_fit Upd17120 = omega arith

pub some_level : (model : Model) → 0 < (chip_of model).levels
some_level Upd17132 = omega arith
some_level Upd17120 = omega arith

pub words_below : (model : Model) → (chip_of model).words ≤ 1024
words_below Upd17132 = lit≤ tt
words_below Upd17120 = lit≤ tt

-- the PC can hold the address of each word
pub words_fit : (model : Model) → (chip_of model).words ≤ 2 ^ (chip_of model).pc_bits
words_fit Upd17132 = lit≤ tt
words_fit Upd17120 = lit≤ tt

-- the PC goes on at 0 after the last address, as the code computes it
pub next_wraps : (model : Model) (x : ℕ) → ((x + 1) % 65536) % 2 ^ (chip_of model).pc_bits ≡ wrap_next (chip_of model).pc_bits x
next_wraps Upd17132 x = cut 10 x 6
next_wraps Upd17120 x = cut 10 x 6

-- a chip that has every cell lacks none
module _ (chip : Chip) (w : is_whole chip ≡ true) (at : ℕ) where
  there : at < 128 → chip.installed at ≡ true
  unfolding is_whole
  there h = holds (every_at_lem chip.installed 128 (passed w) at h)

  by_bound : (b : Bool) → ltb at 128 ≡ b → (b && not (chip.installed at)) ≡ false
  by_bound true e = rw (there (ltb-true at 128 e))
  by_bound false e = refl

  pub none_lacking : is_missing chip at ≡ false
  none_lacking = by_bound (ltb at 128) refl
