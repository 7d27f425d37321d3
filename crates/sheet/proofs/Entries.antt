-- The laws of a sheet entry, over the number of levels: all that the rules' proofs use of one.
-- Assumes nothing.
use Rattle.std.proofs.Common.{◌≡◌, ℕ, suc, ◌+◌, ◌-◌, ◌<◌, ◌≤◌, max, Bool, true, false, ◌&&◌, leb, sym, refl, ◌∙◌, arith, le-leb, leb-true}
use mathlib.Core.Bool.{false≢true}
use Rattle.laws.specs.Every.{some}
use Rattle.laws.proofs.Booleans.{both, not_passed}
use Rattle.laws.proofs.Some.{some_of, some_none}
use Rattle.laws.proofs.Wrap.{wrap_laws}
use Rattle.sheet.specs.Entry.{reached, holds, covers, shares, raised, raised_bytes, at_most, at_least}
use Rattle.sheet.specs.declared.Entry.{Entry}

module _ (most : ℕ) where
  -- the levels of an entry that is reached
  pub levels : (e : Entry) → reached most e ≡ true → (e.lowest ≤ e.highest) × (e.highest ≤ most)
  unfolding reached
  levels e r =
      let p = both (leb e.lowest e.highest) (leb e.highest most) r in
      (leb-true _ _ p.0, leb-true _ _ p.1)

  -- a depth in the range of an entry that is reached
  pub record In (e : Entry) (d : ℕ) : Type 0 where
    pub above : e.lowest ≤ d
    pub below : d ≤ e.highest
    pub bound : e.highest ≤ most

  pub held : (e : Entry) (d : ℕ) → holds most e d ≡ true → In e d
  unfolding holds
  held e d h =
      let p = both (reached most e) (leb e.lowest d && leb d e.highest) h in
      let q = both (leb e.lowest d) (leb d e.highest) p.1 in
      record { above = leb-true _ _ q.0; below = leb-true _ _ q.1; bound = (levels e p.0).1 }

  pub holding : (e : Entry) (d : ℕ) → In e d → holds most e d ≡ true
  unfolding holds reached
  holding e d i =
      let o : e.lowest ≤ e.highest = omega (arith, i.above, i.below) in
      simp (le-leb _ _ o, le-leb _ _ i.bound, le-leb _ _ i.above, le-leb _ _ i.below)

  pub holds_reached : (e : Entry) (d : ℕ) → holds most e d ≡ true → reached most e ≡ true
  unfolding holds
  holds_reached e d h = (both (reached most e) (leb e.lowest d && leb d e.highest) h).0

  pub covers_holds : (e f : Entry) (d : ℕ) → covers most e f ≡ true → holds most f d ≡ true → holds most e d ≡ true
  unfolding covers
  covers_holds e f d c h =
      let p = both (reached most e) (leb e.lowest f.lowest && leb f.highest e.highest) c in
      let q = both (leb e.lowest f.lowest) (leb f.highest e.highest) p.1 in
      let i = held f d h in
      holding e d
      (record {
        above = omega (arith, leb-true e.lowest f.lowest q.0);
        below = omega (arith, leb-true f.highest e.highest q.1);
        bound = (levels e p.0).1;
      })

  pub shares_both : (e f : Entry) (d : ℕ) → holds most e d ≡ true → holds most f d ≡ true → shares most e f ≡ true
  unfolding shares
  shares_both e f d h g =
      let i = held e d h in
      some_of (λ (k : ℕ). holds most e k && holds most f k) (most + 1) d (omega (arith, i.below, i.bound)) (rw h g)

  -- two ranges share a depth where neither lies above the other
  abbrev pub meet : Entry → Entry → Bool
  meet e f = reached most e && (reached most f && (leb e.lowest f.highest && leb f.lowest e.highest))

  meet_both : (e f : Entry) (d : ℕ) → holds most e d ≡ true → holds most f d ≡ true → meet e f ≡ true
  meet_both e f d h g =
      let i = held e d h in
      let j = held f d g in
      simp (
        holds_reached e d h,
        holds_reached f d g,
        le-leb e.lowest f.highest (omega (arith, i.above, j.below)),
        le-leb f.lowest e.highest (omega (arith, j.above, i.below)),
      )

  pub shares_ranges : (e f : Entry) → shares most e f ≡ meet e f
  unfolding shares
  shares_ranges e f = go (meet e f) refl
    where
      go : (b : Bool) → meet e f ≡ b → some (λ (d : ℕ). holds most e d && holds most f d) (most + 1) ≡ b
      go true m =
          let p = both (reached most e) (reached most f && (leb e.lowest f.highest && leb f.lowest e.highest)) m in
          let q = both (reached most f) (leb e.lowest f.highest && leb f.lowest e.highest) p.1 in
          let r = both (leb e.lowest f.highest) (leb f.lowest e.highest) q.1 in
          let a : e.lowest ≤ f.highest = leb-true _ _ r.0 in
          let b : f.lowest ≤ e.highest = leb-true _ _ r.1 in
          let i = levels e p.0 in
          let j = levels f q.0 in
          let h : holds most e (max e.lowest f.lowest) ≡ true = holding e _ (record { above = omega arith; below = omega arith; bound = i.1 }) in
          let g : holds most f (max e.lowest f.lowest) ≡ true = holding f _ (record { above = omega arith; below = omega arith; bound = j.1 }) in
          shares_both e f (max e.lowest f.lowest) h g
      go false m =
          some_none (λ (d : ℕ). holds most e d && holds most f d) (most + 1)
          (λ d l. not_passed (holds most e d && holds most f d)
          (λ h. let p = both (holds most e d) (holds most f d) h in false≢true (sym m ∙ meet_both e f d p.0 p.1)))

  pub at_most_holds : (k : ℕ) (e : Entry) (d : ℕ) → at_most k e ≡ true → holds most e d ≡ true → d ≤ k
  unfolding at_most
  at_most_holds k e d a h = omega (arith, leb-true e.highest k a, (held e d h).below)

  pub at_least_holds : (k : ℕ) (e : Entry) (d : ℕ) → at_least k e ≡ true → holds most e d ≡ true → k ≤ d
  unfolding at_least
  at_least_holds k e d a h = omega (arith, leb-true k e.lowest a, (held e d h).above)

  -- with a free level
  module _ (pos : 0 < most) (e : Entry) (free : at_most (most - 1) e ≡ true) where
    room : e.highest ≤ most - 1
    unfolding at_most
    room = leb-true e.highest (most - 1) free

    pub raised_holds : (d : ℕ) → holds most e d ≡ true → holds most (raised e) (suc d) ≡ true
    unfolding raised
    raised_holds d h =
        let i = held e d h in
        holding (raised e) (suc d) (record { above = omega arith; below = omega arith; bound = omega (arith, room) })

    -- its bytes do not wrap
    pub raised_bytes_lem : most < 256 → reached most e ≡ true → raised_bytes e ≡ raised e
    unfolding raised_bytes raised
    raised_bytes_lem small r =
        let l = levels e r in
        simp ((wrap_laws 8 e.lowest).inner (omega (arith, room)), (wrap_laws 8 e.highest).inner (omega (arith, room)))
