use mathlib.Core.Path.{ap}
use Rattle.std.specs.Prelude.{Some}
use Rattle.machine.specs.Signals.{signals}
use Rattle.pollwezen.proofs.Kept.{kept}
use Rattle.pollwezen.specs.Lent.{lent_step_of}
use Rattle.pollwezen.proofs.pollwezen_step.Goals as goal

pub returns-clause-kept : goal.returns-clause-kept
returns-clause-kept c =
    let a = c.args in
    let e = rw c.by_fields.ensures at c.step_in_place-s.ensures.stepped in
    kept (Some c.in-Some.known) a.rom.now (signals a.input a.pulse) a.machine.now _
    (rw (c.reply_number.ensures, c.by_fields-machine.ensures, c.by_registers-machine.ensures) (ap lent_step_of e))
