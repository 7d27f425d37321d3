use mathlib.Core.Path.{◌∙◌, ap}
use borrow.Author.Tests.{eq-eqb, ne_eqb}
use Rattle.peripherals.specs.Timer.{tick_of}
use Rattle.peripherals.specs.declared.Peripherals.{Peripherals}
use Rattle.cpu.proofs.stepping.stood.Goals as goal

pub returns-then-standby-ne-HALT : goal.returns-then-standby-ne-HALT
returns-then-standby-ne-HALT c = rw (ne_eqb _ _ c.if-standby-ne-HALT.true)

pub returns : goal.returns
returns c =
    let pulse = c.args.pulse in
    rw (eq-eqb _ _ c.if-standby-ne-HALT.false)
    (c.with.ensures ∙ c.tick-timer.ensures.0 ∙ ap (λ (p : Peripherals). tick_of p 1 pulse) c.from.ensures.0)
