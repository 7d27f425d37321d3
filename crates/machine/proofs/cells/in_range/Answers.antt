use Rattle.std.proofs.Common.{◌≡◌, ◌∙◌, true, false, refl, sym}
use borrow.Author.Tests.{not-true, not-false}
use Rattle.machine.proofs.Split.{by_tests}
use Rattle.machine.proofs.cells.in_range.Goals as goal

pub returns-then-not-missing_empty : goal.returns-then-not-missing_empty
returns-then-not-missing_empty c =
    let a = c.args in
    by_tests a.model a.cells.now false _ _ (sym (not-true _ c.if-not-missing_empty.true-raw) ∙ c.missing_empty.ensures) refl refl

pub returns-then-all_nibbles : goal.returns-then-all_nibbles
returns-then-all_nibbles c =
    let a = c.args in
    let e : c.all_nibbles.result ≡ true = cc in
    by_tests a.model a.cells.now true true c.fixed_bits.result (sym (not-false _ c.if-not-missing_empty.false-raw) ∙ c.missing_empty.ensures) (sym e ∙ c.all_nibbles.ensures) c.fixed_bits.ensures

pub returns-else-all_nibbles : goal.returns-else-all_nibbles
returns-else-all_nibbles c =
    let a = c.args in
    let e : c.all_nibbles.result ≡ false = cc in
    e ∙ by_tests a.model a.cells.now true false _ (sym (not-false _ c.if-not-missing_empty.false-raw) ∙ c.missing_empty.ensures) (sym e ∙ c.all_nibbles.ensures) refl
