use Rattle.std.proofs.Common.{rules}
use Rattle.isa.specs.Decode.{columns}
use Rattle.control.proofs.Opcodes.{other_nibble, other_fixed}
use Rattle.control.proofs.words.of_group.Goals as goal

pub returns-then-word-ne0 : goal.returns-then-word-ne0
returns-then-word-ne0 c =
    other_nibble _ (search rules) c.in_default.in_default-own.rest c.in_default-m.in_default-m-own.rest _ (search rules) c.if-word-ne0.true

pub returns-in-2 : goal.returns-in-2
unfolding columns
returns-in-2 c = rw c.in-2.is cc

pub returns-in-3 : goal.returns-in-3
unfolding columns
returns-in-3 c = rw c.in-3.is cc

pub returns-in-10 : goal.returns-in-10
unfolding columns
returns-in-10 c = rw c.in-10.is cc

pub returns-in-11 : goal.returns-in-11
unfolding columns
returns-in-11 c = rw c.in-11.is cc

pub returns-in-1 : goal.returns-in-1
unfolding columns
returns-in-1 c = rw (c.if-word-ne0.false, c.in-1.is)

pub returns-in_default-m-2 : goal.returns-in_default-m-2
returns-in_default-m-2 c =
    rw c.if-word-ne0.false
    (other_fixed _ (search rules) c.in_default.in_default-own.rest c.in_default-m.in_default-m-own.rest c.in_default-m-2.in_default-m-2-own.rest)
