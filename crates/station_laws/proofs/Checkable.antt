-- The check of a station that was read, from the counts that the reader takes.
-- Assumes nothing.
use mathlib.Core.Path.{◌≡◌, refl}
use mathlib.Core.Bool.{Bool, true, false, cond, ◌||◌, false≢true}
use mathlib.Core.List.{List}
use mathlib.Core.Logic.{◌⊎◌, inl, inr}
use Prim.Native.Nat.{ℕ, ◌*◌}
use native.Mathlib.Omega.{arith}
use borrow.Author.Tests.{eqb-true}
use lib.Dec.{eqb, ltb}
use lib.ListN.{length}
use Rattle.memory.specs.Chip.{upd17132}
use Rattle.machine.specs.Ranges.{rom_in_range}
use Rattle.station_file.specs.Station.{rom_count}
use Rattle.verifier.specs.Verdict.{pass, fail, refused, ruled, lowest_word, lowest_rule, verify_of}
use Rattle.station_laws.specs.Checkable.{Checkable}
use Rattle.station_file.proofs.InForms.{read_sound}

not_refused : (b : Bool) (w r n : ℕ) → cond b (fail w r) pass ≡ refused n → ⊥
not_refused true w r n e = let z : ◌≡◌ {A = ℕ} 0 1 = cc in omega arith
not_refused false w r n e = let z : ◌≡◌ {A = ℕ} 0 1 = cc in omega arith

module _ (rom sheet : List ℕ) where
  answered : rom_count (length rom) ≡ true → eqb (length sheet) (2 * length rom) ≡ true → (n : ℕ) → verify_of upd17132 rom sheet ≡ refused n → ⊥
  unfolding verify_of ruled rom_in_range
  answered r h n e =
      not_refused (ltb (lowest_word upd17132 rom sheet) (length rom)) (lowest_word upd17132 rom sheet) (lowest_rule upd17132 rom sheet (lowest_word upd17132 rom sheet)) n
      (rw (r, h) at e)

  either : (a b : Bool) → eqb (length sheet) 0 ≡ a → eqb (length sheet) (2 * length rom) ≡ b → (a || b) ≡ true → rom_count (length rom) ≡ true
      → (length sheet ≡ 0) ⊎ ((n : ℕ) → verify_of upd17132 rom sheet ≡ refused n → ⊥)
  either true b p q e r = inl (eqb-true (length sheet) 0 p)
  either false true p q e r = inr (answered r q)
  either false false p q e r = absurd (false≢true e)

pub checkable : Checkable
checkable xs s rest e =
    let g = read_sound xs s rest e in
    either s.rom s.sheet (eqb (length s.sheet) 0) (eqb (length s.sheet) (2 * length s.rom)) refl refl g.sheet g.words
