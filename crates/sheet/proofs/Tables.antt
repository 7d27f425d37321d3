-- A table of depths answers for every entry that it was given.
-- Assumes nothing.
use Rattle.std.proofs.Common.{◌≡◌, ℕ, zero, suc, ◌<◌, ◌≤◌, min, max, Bool, true, false, cond, ◌&&◌, ◌||◌, ltb, leb, List, length, get_or, replicate, refl, ◌∙◌, ⊎_elim, le_refl, le_of_suc-le-suc, not-suc-le-zero, eq-or-lt_of_le, arith, length-set, get_or-set_other, get_or-set_same, lt-ltb, le-leb, leb-false, leb-true}
use mathlib.Core.Bool.{and-false}
use borrow.Author.Tests.{lt-leb}
use Rattle.sheet.specs.Depths.{nearest, nearest_below, with_depths, shares_any}
use Rattle.sheet.specs.Entry.{unreached, reached, shares}
use Rattle.sheet.specs.declared.Entry.{Entry}
use Rattle.sheet.proofs.Entries.{levels, shares_ranges}

none_yet : (n d : ℕ) → get_or (replicate n unreached) d unreached ≡ unreached
none_yet zero d = refl
none_yet (suc n) zero = refl
none_yet (suc n) (suc d) = none_yet n d

-- the place of each depth
module _ (table : List ℕ) (e : Entry) where
  length_below : (k : ℕ) → length (nearest_below e k table) ≡ length table
  length_below zero = refl
  length_below (suc k) = length-set (nearest_below e k table) k _ ∙ length_below k

  -- a depth that was not reached yet has what it had
  pub later : (k d : ℕ) → k ≤ d → get_or (nearest_below e k table) d unreached ≡ get_or table d unreached
  later zero d u = refl
  later (suc k) d u = get_or-set_other (nearest_below e k table) k d _ unreached (λ q. omega arith) ∙ later k d (omega arith)

  at_depth : (k d : ℕ) → d < k → k ≤ length table → get_or (nearest_below e k table) d unreached ≡ nearest e d (get_or table d unreached)
  at_depth zero d l u = absurd (not-suc-le-zero l)
  at_depth (suc k) d l u =
      ⊎_elim (λ (q : d ≡ k). rw q (get_or-set_same (nearest_below e k table) k _ unreached (omega (arith, length_below k))))
      (λ (m : d < k). get_or-set_other (nearest_below e k table) k d _ unreached (λ q. omega arith) ∙ at_depth k d m (omega arith))
      (eq-or-lt_of_le (le_of_suc-le-suc l))

-- the first depth from d up is at most h where one of the entry's, from lo to hi, is, or the first so far
module _ (lo hi d h first : ℕ) (up : d ≤ h) where
  within : (a b c : Bool) → leb d hi ≡ a → leb lo h ≡ b → leb first h ≡ c
      → leb (cond a (min first (max d lo)) first) h ≡ ((b && a) || c)
  within true true c p q r = let l = leb-true lo h q in le-leb (min first (max d lo)) h (omega arith)
  within true false true p q r = let l = leb-true first h r in le-leb (min first (max d lo)) h (omega arith)
  within true false false p q r =
      let l = leb-false lo h q in
      let m = leb-false first h r in
      lt-leb (min first (max d lo)) h (omega arith)
  within false true c p q r = r
  within false false c p q r = r

module _ (most : ℕ) where
  pub none_shared : most < unreached → (n : ℕ) (e : Entry) → shares_any most (replicate n unreached) e ≡ false
  unfolding shares_any
  none_shared small n e = go (reached most e) refl
    where
      go : (b : Bool) → reached most e ≡ b
          → (b && (ltb e.lowest (length (replicate n unreached)) && leb (get_or (replicate n unreached) e.lowest unreached) e.highest)) ≡ false
      go true p =
          let l = levels most e p in
          rw (none_yet n e.lowest, lt-leb unreached e.highest (omega arith)) (and-false (ltb e.lowest (length (replicate n unreached))))
      go false p = refl

  module _ (table : List ℕ) (e : Entry) where
    pub length_table : length (with_depths most table e) ≡ length table
    unfolding with_depths
    length_table = go (reached most e)
      where
        go : (b : Bool) → length (cond b (nearest_below e (length table) table) table) ≡ length table
        go true = length_below table e (length table)
        go false = refl

    -- one entry more is one more to share a depth with
    pub one_more : most < length table → (f : Entry) → shares_any most (with_depths most table e) f ≡ (shares most e f || shares_any most table f)
    unfolding shares_any with_depths
    one_more small f = rw (shares_ranges most e f) (go (reached most e) (reached most f) refl refl)
      where
        go : (a b : Bool) → reached most e ≡ a → reached most f ≡ b
            → (b && (ltb f.lowest (length (cond a (nearest_below e (length table) table) table))
            && leb (get_or (cond a (nearest_below e (length table) table) table) f.lowest unreached) f.highest))
            ≡ ((a && (b && (leb e.lowest f.highest && leb f.lowest e.highest)))
            || (b && (ltb f.lowest (length table) && leb (get_or table f.lowest unreached) f.highest)))
        go false b p q = refl
        go true false p q = refl
        go true true p q =
            let l = levels most f q in
            let inside : f.lowest < length table = omega arith in
            rw (length_below table e (length table), lt-ltb f.lowest (length table) inside, at_depth table e (length table) f.lowest inside (le_refl (length table)))
            (within e.lowest e.highest f.lowest f.highest (get_or table f.lowest unreached) l.0 _ _ _ refl refl refl)
