-- A test that passes at each place of a list passes after a store of what passes there.
-- Assumes nothing.
use mathlib.Core.Path.{◌≡◌, refl}
use mathlib.Core.Bool.{Bool, true, false}
use mathlib.Core.List.{List}
use Prim.Native.Nat.{ℕ}
use borrow.Author.Tests.{eqb-true, eqb-false, ltb-true, ltb-false}
use lib.Dec.{T, eqb, ltb}
use lib.ListN.{get_or, set, length}
use lib.Seq.{get_or-set_same, get_or-set_other, set_out}
use Rattle.laws.specs.Every.{every}
use Rattle.laws.proofs.Every.{every_at_lem, every_of, passed, holds}

module _ (fits : ℕ → ℕ → Bool) (xs : List ℕ) (at v : ℕ) (good : T (fits at v)) where
  one_place : (k : ℕ) (here inside : Bool) → eqb k at ≡ here → ltb at (length xs) ≡ inside
      → T (fits k (get_or xs k 0)) → T (fits k (get_or (set xs at v) k 0))
  one_place k false inside e l t = rw (get_or-set_other xs at k v 0 (eqb-false k at e)) t
  one_place k true false e l t = rw (set_out xs at v (ltb-false at (length xs) l)) t
  one_place k true true e l t = rw (eqb-true k at e, get_or-set_same xs at v 0 (ltb-true at (length xs) l)) good

  pub every_stored : (n : ℕ) → every (λ (k : ℕ). fits k (get_or xs k 0)) n ≡ true → every (λ (k : ℕ). fits k (get_or (set xs at v) k 0)) n ≡ true
  every_stored n r =
      holds (every_of (λ (k : ℕ). fits k (get_or (set xs at v) k 0)) n (λ k h.
      one_place k (eqb k at) (ltb at (length xs)) refl refl (every_at_lem (λ (j : ℕ). fits j (get_or xs j 0)) n (passed r) k h)))
