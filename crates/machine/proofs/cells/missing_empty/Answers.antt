use mathlib.Core.Path.{◌≡◌, ◌∙◌, ap, refl, sym}
use native.Mathlib.Omega.{arith}
use Rattle.laws.specs.Every.{every}
use Rattle.memory.specs.Chip.{chip_of}
use Rattle.machine.specs.FixedBits.{empty_if_missing}
use Rattle.machine.proofs.Missing.{none_missing, one_more}
use Rattle.machine.proofs.cells.missing_empty.Goals as goal

pub returns-then-is_whole : goal.returns-then-is_whole
returns-then-is_whole c = let a = c.args in sym (none_missing (chip_of a.model) a.cells.now (sym c.is_whole.ensures ∙ c.if-is_whole.true))

pub loop-at-init : goal.loop-at-init
loop-at-init c = refl

pub loop-at-preserved : goal.loop-at-preserved
loop-at-preserved c =
    let l = c.loop-at in
    let a = c.args in
    rw c.surplus-bits.ensures (one_more (chip_of a.model) a.cells.now l.at l.bits l.invariant)

pub returns : goal.returns
returns c =
    let l = c.loop-at in
    let a = c.args in
    let e : l.at ≡ 128 = omega arith in
    l.invariant ∙ ap (every (empty_if_missing (chip_of a.model) a.cells.now)) e
