-- A sheet of single levels, made into one of ranges.
-- Assumes nothing.
use mathlib.Core.Path.{◌≡◌, refl}
use mathlib.Core.List.{List, ◌++◌}
use Prim.Native.Nat.{ℕ, ◌*◌, ◌/◌, ◌<◌, ◌≤◌}
use native.Mathlib.Omega.{arith}
use lib.ListN.{length, drop}
use borrow.Author.Tests.{le-leb, lt-leb}
use Rattle.std.specs.Prelude.{Ok, Err}
use Rattle.station_file.specs.Answers.{written_by}
use Rattle.station_file.specs.Forms.{doubled}
use Rattle.station_file.specs.Write.{widen_of}
use Rattle.station_file.specs.declared.FileRefusal.TheVariants.{Room}
use Rattle.station_file.proofs.Packing.{length_doubled}

module _ (levels out : List ℕ) where
  pub too_short : length out / 2 < length levels → written_by (Err Room) out ≡ widen_of levels out
  unfolding widen_of
  too_short h =
      let b : length out < 2 * length levels = omega arith in
      rw (length_doubled levels, lt-leb (2 * length levels) (length out) b) refl

  pub widens : (front : List ℕ) → length levels ≤ length out / 2 → front ≡ doubled levels
      → written_by (Ok (2 * length levels)) (front ++ drop (2 * length levels) out) ≡ widen_of levels out
  unfolding widen_of
  widens front h e =
      let b : 2 * length levels ≤ length out = omega arith in
      rw (e, length_doubled levels, le-leb (2 * length levels) (length out) b) refl
