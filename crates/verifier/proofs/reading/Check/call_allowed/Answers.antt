use mathlib.Core.Path.{◌≡◌, ◌∙◌, sym}
use mathlib.Core.Bool.{true, and-true}
use Prim.Native.Nat.{◌-◌}
use native.Mathlib.Omega.{arith}
use Rattle.memory.specs.Chip.{chip_of}
use Rattle.memory.specs.declared.Model.{Model}
use Rattle.memory.proofs.Numbers.{levels_fit, some_level}
use Rattle.sheet.specs.Entry.{at_most, raised, raised_bytes, reached}
use Rattle.sheet.specs.declared.Entry.{Entry}
use Rattle.sheet.proofs.Entries.{raised_bytes_lem}
use Rattle.verifier.proofs.reading.Check.call_allowed.Goals as goal

-- where a level is free, the bytes that are raised are the raised range
is_raised : (model : Model) (e higher : Entry) → higher ≡ raised_bytes e → at_most ((chip_of model).levels - 1) e ≡ true
    → reached (chip_of model).levels e ≡ true → raised e ≡ higher
is_raised model e higher bytes free here =
    sym (bytes ∙ raised_bytes_lem (chip_of model).levels (some_level model) e free (omega (arith, levels_fit model)) here)

pub returns-else-is_met : goal.returns-else-is_met
returns-else-is_met c =
    let free = sym c.leaves_room.ensures ∙ c.if-not-leaves_room.false in
    simp (free, is_raised _ _ _ c.raised-higher.ensures free c.requires, sym c.is_met.ensures, c.if-is_met.false)

pub returns-then-not-shares_any : goal.returns-then-not-shares_any
returns-then-not-shares_any c =
    let free = sym c.leaves_room.ensures ∙ c.if-not-leaves_room.false in
    let found = rw c.levels.ensures at c.shares_any.ensures in
    simp (
      free,
      is_raised _ _ _ c.raised-higher.ensures free c.requires,
      sym c.is_met.ensures ∙ c.if-is_met.true,
      sym (c.args.self.now.returned c.raised-higher.result),
      sym found,
      c.if-not-shares_any.true,
    )

pub returns-else-not-shares_any : goal.returns-else-not-shares_any
returns-else-not-shares_any c =
    let free = sym c.leaves_room.ensures ∙ c.if-not-leaves_room.false in
    let found = rw c.levels.ensures at c.shares_any.ensures in
    simp (
      free,
      is_raised _ _ _ c.raised-higher.ensures free c.requires,
      sym c.is_met.ensures ∙ c.if-is_met.true,
      sym (c.args.self.now.returned c.raised-higher.result),
      sym found,
      c.if-not-shares_any.false,
      sym c.skipped_met.ensures,
      and-true,
    )
