-- A control in range stays so under each change of it.
-- Assumes nothing.
use mathlib.Core.Path.{◌≡◌, refl}
use mathlib.Core.Bool.{Bool, true, false, cond}
use mathlib.Core.List.{List}
use Prim.Native.Nat.{ℕ, ◌+◌, ◌-◌, ◌^◌, ◌<◌, ◌≤◌}
use native.Mathlib.Omega.{arith}
use borrow.Author.Tests.{lt-ltb, le-ltb, le-leb, ltb-true, ltb-false, eqb-true, eqb-false}
use lib.Dec.{T, eqb, ltb, ltb→lt, lt→ltb}
use lib.ListN.{get_or, set, length, get_or-eq_default}
use lib.Pow.{pow_pos}
use lib.Seq.{get_or-set_same, get_or-set_other, set_out}
use Rattle.laws.proofs.Every.{every_at_lem, every_of, passed, holds}
use Rattle.laws.proofs.Bits.{bit_below}
use Rattle.laws.proofs.Wrap.{wrap_below}
use Rattle.memory.specs.Chip.{Chip}
use Rattle.control.specs.Control.{jump_to, with_skip, with_standby, pushed as pushedOf, popped as poppedOf, top_of, next_of, onwards}
use Rattle.machine.specs.Ranges.{places, level_in_range, control_in_range, marks_in_range}
use Rattle.machine.specs.declared.Control.{Control}
use Rattle.cpu.proofs.RangeParts.{control_parts, marks_parts}

-- the chip has no more levels than the record has places
module _ (chip : Chip) (small : chip.levels ≤ places) where
  abbrev bound : ℕ
  bound = 2 ^ chip.pc_bits

  -- one level of the stack: open or closed, and what stands on it
  abbrev Level : Bool → ℕ → Type 0
  Level opened v = T (cond opened (ltb v bound) (eqb v 0))

  zero_fits : (opened : Bool) → Level opened 0
  zero_fits true = lt→ltb 0 bound (pow_pos chip.pc_bits)
  zero_fits false = tt

  closed_zero : (opened : Bool) (v : ℕ) → opened ≡ false → Level opened v → v ≡ 0
  closed_zero true v e t = absurd (let z : ◌≡◌ {A = ℕ} 0 1 = cc in omega arith)
  closed_zero false v e t = eqb-true v 0 (holds t)

  open_below : (opened : Bool) (v : ℕ) → opened ≡ true → Level opened v → v < bound
  open_below true v e t = ltb→lt v bound t
  open_below false v e t = absurd (let z : ◌≡◌ {A = ℕ} 0 1 = cc in omega arith)

  -- a control in range, as facts
  pub record Fine (c : Control) : Type 0 where
    pub pc : c.pc < bound
    pub levels : c.levels ≤ chip.levels
    pub each : (k : ℕ) → k < places → Level (ltb k c.levels) (get_or c.stack k 0)
    pub skip : c.skip ≤ 1
    pub standby : c.standby ≤ 2

  pub fine : (c : Control) → control_in_range chip c ≡ true → marks_in_range c ≡ true → Fine c
  fine c e m =
      let p = control_parts chip c e in
      let q = marks_parts c m in
      record { pc = p.0; levels = p.1.0; each = λ k h. every_at_lem (level_in_range chip c) places (passed p.1.1) k h; skip = q.0; standby = q.1 }

  pub in_range_lem : (c : Control) → Fine c → control_in_range chip c ≡ true
  unfolding control_in_range
  in_range_lem c f =
      rw (lt-ltb c.pc bound f.pc, le-leb c.levels chip.levels f.levels)
      (holds (every_of (level_in_range chip c) places f.each))

  pub marks_in_range_lem : (c : Control) → Fine c → marks_in_range c ≡ true
  unfolding marks_in_range
  marks_in_range_lem c f = rw (le-leb c.skip 1 f.skip, le-leb c.standby 2 f.standby)

  pub jumped : (to : ℕ) (c : Control) → to < bound → Fine c → Fine (jump_to to c)
  jumped to c h f = record { pc = h; levels = f.levels; each = f.each; skip = f.skip; standby = f.standby }

  pub went_on : (c : Control) → Fine c → Fine (onwards chip c)
  went_on c f = jumped (next_of chip c.pc) c (wrap_below chip.pc_bits c.pc) f

  pub with_skip_lem : (skip : Bool) (c : Control) → Fine c → Fine (with_skip skip c)
  with_skip_lem skip c f = record { pc = f.pc; levels = f.levels; each = f.each; skip = bit_below skip; standby = f.standby }

  pub with_standby_lem : (mark : ℕ) (c : Control) → mark ≤ 2 → Fine c → Fine (with_standby mark c)
  with_standby_lem mark c h f = record { pc = f.pc; levels = f.levels; each = f.each; skip = f.skip; standby = h }

  pushed_level : (stack : List ℕ) (n a k : ℕ) (below here inside : Bool) → ltb k n ≡ below → eqb k n ≡ here
      → ltb n (length stack) ≡ inside → a < bound → Level (ltb k n) (get_or stack k 0) → Level (ltb k (n + 1)) (get_or (set stack n a) k 0)
  pushed_level stack n a k true here inside b e l h t =
      let k<n : k < n = ltb-true k n b in
      rw (lt-ltb k (n + 1) (omega arith), get_or-set_other stack n k a 0 (λ (x : k ≡ n). omega arith))
      (lt→ltb (get_or stack k 0) bound (open_below (ltb k n) (get_or stack k 0) b t))
  pushed_level stack n a k false true true b e l h t =
      let k≡n : k ≡ n = eqb-true k n e in
      rw (k≡n, lt-ltb n (n + 1) (omega arith), get_or-set_same stack n a 0 (ltb-true n (length stack) l)) (lt→ltb a bound h)
  pushed_level stack n a k false true false b e l h t =
      let k≡n : k ≡ n = eqb-true k n e in
      rw (set_out stack n a (ltb-false n (length stack) l), closed_zero (ltb k n) (get_or stack k 0) b t) (zero_fits (ltb k (n + 1)))
  pushed_level stack n a k false false inside b e l h t =
      let n≤k : n ≤ k = ltb-false k n b in
      rw (get_or-set_other stack n k a 0 (eqb-false k n e), closed_zero (ltb k n) (get_or stack k 0) b t) (zero_fits (ltb k (n + 1)))

  pub pushed : (a : ℕ) (c : Control) → a < bound → c.levels < chip.levels → Fine c → Fine (pushedOf a c)
  pushed a c h l f = record {
    pc = f.pc;
    levels = omega arith;
    each = λ k b.
        pushed_level c.stack c.levels a k (ltb k c.levels) (eqb k c.levels) (ltb c.levels (length c.stack)) refl refl refl h
        (f.each k b);
    skip = f.skip;
    standby = f.standby;
  }

  popped_level : (stack : List ℕ) (n k : ℕ) (below here inside : Bool) → 0 < n → ltb k (n - 1) ≡ below → eqb k (n - 1) ≡ here
      → ltb (n - 1) (length stack) ≡ inside → Level (ltb k n) (get_or stack k 0) → Level (ltb k (n - 1)) (get_or (set stack (n - 1) 0) k 0)
  popped_level stack n k below true true p b e l t =
      let k≡n : k ≡ n - 1 = eqb-true k (n - 1) e in
      rw (k≡n, get_or-set_same stack (n - 1) 0 0 (ltb-true (n - 1) (length stack) l)) (zero_fits (ltb (n - 1) (n - 1)))
  popped_level stack n k below true false p b e l t =
      let k≡n : k ≡ n - 1 = eqb-true k (n - 1) e in
      let out : length stack ≤ n - 1 = ltb-false (n - 1) (length stack) l in
      rw (set_out stack (n - 1) 0 out, k≡n, get_or-eq_default stack 0 {n = n - 1} out) (zero_fits (ltb (n - 1) (n - 1)))
  popped_level stack n k true false inside p b e l t =
      let k<n : k < n - 1 = ltb-true k (n - 1) b in
      rw (b, get_or-set_other stack (n - 1) k 0 0 (eqb-false k (n - 1) e))
      (lt→ltb (get_or stack k 0) bound (open_below (ltb k n) (get_or stack k 0) (lt-ltb k n (omega arith)) t))
  popped_level stack n k false false inside p b e l t =
      let n≤k : n - 1 ≤ k = ltb-false k (n - 1) b in
      let k≢n : k ≡ n - 1 → ⊥ = eqb-false k (n - 1) e in
      rw (get_or-set_other stack (n - 1) k 0 0 k≢n, closed_zero (ltb k n) (get_or stack k 0) (le-ltb k n (omega arith)) t)
      (zero_fits (ltb k (n - 1)))

  pub popped : (c : Control) → 0 < c.levels → Fine c → Fine (poppedOf c)
  popped c p f = record {
    pc = f.pc;
    levels = omega (arith, f.levels);
    each = λ k b.
        popped_level c.stack c.levels k (ltb k (c.levels - 1)) (eqb k (c.levels - 1)) (ltb (c.levels - 1) (length c.stack)) p
        refl refl refl (f.each k b);
    skip = f.skip;
    standby = f.standby;
  }

  pub top_below : (c : Control) → 0 < c.levels → Fine c → top_of c < bound
  top_below c p f =
      open_below (ltb (c.levels - 1) c.levels) (top_of c) (lt-ltb (c.levels - 1) c.levels (omega arith))
      (f.each (c.levels - 1) (omega (arith, f.levels)))
