use Rattle.std.proofs.Common.{ap, ◌∙◌, le-leb}
use borrow.Author.Tests.{lt-leb}
use Rattle.peripherals.specs.Pace.{left_of, paced_of, rest_of}
use Rattle.peripherals.specs.Timer.{tick_of}
use Rattle.peripherals.specs.declared.Peripherals.{Peripherals}
use Rattle.peripherals.proofs.Timer.pace.Goals as goal

pub returns-then-cycles-self : goal.returns-then-cycles-self
unfolding paced_of left_of
returns-then-cycles-self c =
    let few = le-leb _ _ c.if-cycles-self.true in
    (rw (few, c.moved.ensures), rw few)

pub returns : goal.returns
unfolding paced_of left_of tick_of
returns c =
    let s = c.args in
    let many = lt-leb _ _ c.if-cycles-self.false in (
      rw many c.tick-after.ensures.0,
      rw many (c.rest.ensures ∙ ap (λ (p : Peripherals). rest_of s.registers.now p.divider s.pulse) c.tick-after.ensures.0),
    )
