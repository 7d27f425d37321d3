use Rattle.std.proofs.Common.{◌<◌, sym, ◌∙◌, arith}
use Rattle.listing.proofs.Rows.{element_at}
use Rattle.listing.proofs.Words.{is_word, no_word, no_row}
use Rattle.listing.proofs.encoder.word_of.Goals as goal

pub returns-then-row-ge47 : goal.returns-then-row-ge47
returns-then-row-ge47 c = no_row c.args.row c.args.operands c.if-row-ge47.true

pub returns-then-eq : goal.returns-then-eq
returns-then-eq c =
    let inside : c.args.row < 47 = omega (arith, c.if-row-ge47.false) in
    is_word c.args.row inside _ c.args.operands _ _ (element_at _ _ _ _ c.patterns-table.ensures c.from.ensures inside) c.join-word.ensures c.fields_in-back.ensures (sym c.eq.ensures ∙ c.if-eq.true)

pub returns-else-eq : goal.returns-else-eq
returns-else-eq c =
    let inside : c.args.row < 47 = omega (arith, c.if-row-ge47.false) in
    no_word c.args.row inside _ c.args.operands _ _ (element_at _ _ _ _ c.patterns-table.ensures c.from.ensures inside) c.join-word.ensures c.fields_in-back.ensures (sym c.eq.ensures ∙ c.if-eq.false)
