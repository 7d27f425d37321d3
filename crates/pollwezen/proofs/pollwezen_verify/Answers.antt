use mathlib.Core.Path.{◌∙◌, sym}
use Rattle.pollwezen.specs.Models.{model_of}
use Rattle.pollwezen.proofs.Checks.{not_verified, verified}
use Rattle.pollwezen.proofs.pollwezen_verify.Goals as goal

pub returns-in_default : goal.returns-in_default
returns-in_default c =
    let args = c.args in
    let p = not_verified (model_of args.model) args.rom.now args.sheet.now c.unnamed.result (sym c.selected.ensures ∙ c.in_default.is) (rw c.from.ensures at c.unnamed.ensures) in
    record { verdict = p.0; clear = p.1.0; safe = p.1.1 }

pub returns : goal.returns
returns c =
    let args = c.args in
    let v = c.verify.ensures in
    let p = verified c.in-Some.known args.rom.now args.sheet.now c.verify.result c.from-2.result c.from-2.ensures (model_of args.model) (sym c.selected.ensures ∙ c.in-Some.is) (v.verdict, (v.clear, v.safe)) in
    record { verdict = p.0; clear = p.1.0; safe = p.1.1 }
