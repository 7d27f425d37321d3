use mathlib.Core.Path.{◌∙◌}
use native.Mathlib.Omega.{arith}
use Rattle.std.proofs.lemmas.Result.{err_from_is_err_and}
use Rattle.transcript.proofs.Requests.{early, asked, cell_refused, count_refused, answered}
use Rattle.transcript.proofs.explain.explained.Goals as goal

pub returns-in_default : goal.returns-in_default
returns-in_default c = early _ c.in_default.ensures.cases

pub returns-in_err-station : goal.returns-in_err-station
returns-in_err-station c =
    let p = err_from_is_err_and c.from_residual.result c.from_residual.ensures.1 in
    let whole = asked _ (omega (arith, c.in-Some.ensures.cases.2)) c.in-Some.ensures.cases.0 c.in-Some.ensures.cases.1 in
    rw (p.1, p.2) (c.in_err-station.ensures _ ∙ whole)

pub returns-then-cell-gt127 : goal.returns-then-cell-gt127
returns-then-cell-gt127 c =
    let whole = asked _ (omega (arith, c.in-Some.ensures.cases.2)) c.in-Some.ensures.cases.0 c.in-Some.ensures.cases.1 in
    cell_refused _ _ c.in_ok-station.ensures _ _ c.if-cell-gt127.true ∙ whole

pub returns-then-station-count : goal.returns-then-station-count
returns-then-station-count c =
    let whole = asked _ (omega (arith, c.in-Some.ensures.cases.2)) c.in-Some.ensures.cases.0 c.in-Some.ensures.cases.1 in
    count_refused _ _ c.in_ok-station.ensures _ _ c.if-cell-gt127.false c.if-station-count.true ∙ rw (← c.from_be_bytes-count.ensures) at whole

pub returns : goal.returns
returns c =
    let whole = asked _ (omega (arith, c.in-Some.ensures.cases.2)) c.in-Some.ensures.cases.0 c.in-Some.ensures.cases.1 in
    c.last_writer.ensures ∙ answered _ _ c.in_ok-station.ensures _ _ c.if-cell-gt127.false c.if-station-count.false
    ∙ rw (← c.from_be_bytes-count.ensures) at whole
