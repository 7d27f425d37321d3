use mathlib.Core.Path.{sym}
use native.Mathlib.Omega.{arith}
use borrow.Author.Tests.{eqb-true, eqb-false}
use Rattle.verifier.specs.Verdict as verdict
use Rattle.transcript.specs.Stations.{station_in}
use Rattle.transcript.proofs.Texts.{no_sheet, checked}
use Rattle.transcript.proofs.Station.put_sheet.Goals as goal

pub returns-then-is_empty : goal.returns-then-is_empty
returns-then-is_empty c =
    no_sheet (station_in c.args.self.now) (eqb-true _ _ (sym c.if-is_empty.ensures)) c.put.ensures c.put-then-is_empty.ensures

pub returns-in-Ok-Pass : goal.returns-in-Ok-Pass
returns-in-Ok-Pass c =
    checked (station_in c.args.self.now) (eqb-false _ _ (sym c.if-is_empty.ensures)) verdict.pass (rw c.in-Ok-Pass.field-0-is at c.in-Ok-Pass.ensures.verdict) c.put.ensures (omega arith) c.put-in-Ok-Pass.ensures

pub returns-in-Ok-Fail : goal.returns-in-Ok-Fail
returns-in-Ok-Fail c =
    checked (station_in c.args.self.now) (eqb-false _ _ (sym c.if-is_empty.ensures)) (verdict.fail c.in-Ok-Fail.word c.in-Ok-Fail.rule) (rw c.in-Ok-Fail.field-0-is at c.in-Ok-Fail.ensures.verdict) c.put.ensures (omega arith) c.put_failure.ensures

pub returns-in-Err : goal.returns-in-Err
returns-in-Err c =
    checked (station_in c.args.self.now) (eqb-false _ _ (sym c.if-is_empty.ensures)) _ c.in-Err.ensures.verdict c.put.ensures (omega arith) c.put-in-Err.ensures
