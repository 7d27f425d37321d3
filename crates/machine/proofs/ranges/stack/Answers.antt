use Rattle.std.proofs.Common.{◌≡◌, ◌∙◌, true, sym, arith, add-one}
use borrow.Author.Tests.{not-true, not-false}
use Rattle.laws.proofs.Every.{every_not}
use Rattle.memory.specs.Chip.{chip_of}
use Rattle.machine.specs.Ranges.{level_in_range, places}
use Rattle.machine.proofs.Levels.{tested}
use Rattle.machine.proofs.ranges.stack.Goals as goal

pub returns-then-not-level : goal.returns-then-not-level
returns-then-not-level c =
    let a = c.args in
    let one = tested (chip_of a.model) a.c c.loop-k.k _ _ c.level.ensures (grind arith) in
    sym (every_not (level_in_range (chip_of a.model) a.c) places c.loop-k.k (omega arith) (sym one ∙ not-true _ c.if-not-level.true-raw))

pub loop-k-preserved : goal.loop-k-preserved
loop-k-preserved c =
    let a = c.args in
    let one = tested (chip_of a.model) a.c c.loop-k.k _ _ c.level.ensures (grind arith) in
    let here : level_in_range (chip_of a.model) a.c c.loop-k.k ≡ true = sym one ∙ not-false _ c.if-not-level.false-raw in
    rw (add-one c.loop-k.k, here) c.loop-k.invariant

pub returns : goal.returns
returns c =
    let a = c.args in
    let e : c.loop-k.k ≡ places = omega arith in
    sym (rw e at c.loop-k.invariant)
