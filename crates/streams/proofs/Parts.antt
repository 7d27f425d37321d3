-- One part more of the bytes.
-- Assumes nothing.
use Rattle.std.proofs.Common.{◌≡◌, ℕ, ◌+◌, ◌-◌, ◌≤◌, List, ◌++◌, Option, arith, take, slice_range, sym, ap, ◌∙◌, subst}
use Rattle.std.proofs.KnownBytes.{Appends-trans, Consumes-trans}
use Rattle.std.specs.Io.KnownBytes.{Appends, Consumes}
use lib.Seq.{take-add}

take_joined : (a b : ℕ) (xs : List ℕ) → a ≤ b → take a xs ++ slice_range xs a b ≡ take b xs
take_joined a b xs h =
    let same : a + (b - a) ≡ b = omega arith in
    sym (take-add a (b - a) xs) ∙ ap (λ n. take n xs) same

module _ (o m n : Option (List ℕ)) (a b : ℕ) (h : a ≤ b) where
  pub more_sent : (xs : List ℕ) → Appends o m (take a xs) → Appends m n (slice_range xs a b) → Appends o n (take b xs)
  more_sent xs p q = subst (Appends o n) (take_joined a b xs h) (Appends-trans o m n _ _ p q)

  pub more_taken : (old new : List ℕ) → take a new ≡ take a old → Consumes o m (take a old) → Consumes m n (slice_range new a b)
      → Consumes o n (take b new)
  more_taken old new e p q = subst (Consumes o n) (take_joined a b new h) (Consumes-trans o m n _ _ (subst (Consumes o m) (sym e) p) q)
