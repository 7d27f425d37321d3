use Rattle.std.proofs.Common.{◌≡◌, subst, arith}
use Rattle.laws.proofs.First.{Clear, clear_more}
use Rattle.listing.proofs.Rows.{element_of}
use Rattle.listing.proofs.Search.{absent, none, found_at, absent_at}
use Rattle.listing.proofs.decoder.find.Goals as goal

pub returns-then-join-word : goal.returns-then-join-word
returns-then-join-word c =
    let inside = c.loop-row-test.true in
    found_at c.args.word c.loop-row.row inside _ _ _ (element_of _ _ _ c.patterns-table.ensures inside) c.fields_in-operands.ensures c.join.ensures
    c.loop-row.invariant
    c.if-join-word.true

pub loop-row-preserved : goal.loop-row-preserved
loop-row-preserved c =
    let inside = c.loop-row-test.true in
    clear_more (absent c.args.word) 0 c.loop-row.row c.loop-row.invariant
    (absent_at c.args.word c.loop-row.row inside _ _ _ (element_of _ _ _ c.patterns-table.ensures inside) c.fields_in-operands.ensures c.join.ensures c.if-join-word.false)

pub returns : goal.returns
returns c =
    let end : c.loop-row.row ≡ 47 = omega arith in
    none c.args.word (subst (Clear (absent c.args.word) 0) end c.loop-row.invariant)
