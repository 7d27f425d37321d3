use Rattle.std.proofs.Common.{◌≡◌, ℕ, List, length, get_or, ap, ◌∙◌, add-one, le_refl, arith, rules}
use Rattle.laws.proofs.Lists.{slice_index_inside}
use Rattle.sheet.specs.Depths.{with_depths}
use Rattle.sheet.proofs.Tables.{later}
use Rattle.sheet.proofs.depths.with_depths.Goals as goal

pub loop-depth-preserved : goal.loop-depth-preserved
loop-depth-preserved c =
    let d = c.loop-depth.depth in
    let before =
    slice_index_inside c.loop-depth.first-items d 0 15 (search rules)
    ∙ ap (λ (l : List ℕ). get_or l d 15) c.loop-depth.invariant.1
    ∙ later c.args.table c.args.entry d d (le_refl d) in
    (omega arith, rw (add-one d, ← c.loop-depth.invariant.1, ← before, ← c.nearest.ensures))

pub returns-after-loop-depth : goal.returns-after-loop-depth
unfolding with_depths
returns-after-loop-depth c =
    let all : length c.args.table ≡ c.loop-depth.depth = search rules in
    rw (← c.is_reached.ensures, c.if-is_reached.true, all) c.loop-depth.invariant.1

pub returns-else-is_reached : goal.returns-else-is_reached
unfolding with_depths
returns-else-is_reached c = rw (← c.is_reached.ensures, c.if-is_reached.false)
