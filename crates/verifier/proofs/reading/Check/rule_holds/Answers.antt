use mathlib.Core.Path.{◌≡◌}
use native.Mathlib.Omega.{arith}
use Rattle.std.proofs.lemmas.Grind.{common_steps}
use Rattle.clearance.specs.Rules.{rule_of}
use Rattle.verifier.proofs.reading.Check.rule_holds.Goals as goal

pub returns-then-not-reached : goal.returns-then-not-reached
unfolding rule_of
returns-then-not-reached c = rw c.in-3.is (grind (arith, common_steps))

pub returns-else-not-reached : goal.returns-else-not-reached
unfolding rule_of
returns-else-not-reached c = rw c.in-3.is (grind (arith, common_steps))

pub returns-then-not-reached-2 : goal.returns-then-not-reached-2
unfolding rule_of
returns-then-not-reached-2 c = rw c.in-4.is (grind (arith, common_steps))

pub returns-else-not-reached-2 : goal.returns-else-not-reached-2
unfolding rule_of
returns-else-not-reached-2 c = rw c.in-4.is (grind (arith, common_steps))

pub returns-then-not-reached-3 : goal.returns-then-not-reached-3
unfolding rule_of
returns-then-not-reached-3 c = rw c.in-5.is (grind (arith, common_steps))

pub returns-else-not-reached-3 : goal.returns-else-not-reached-3
unfolding rule_of
returns-else-not-reached-3 c = rw c.in-5.is (grind (arith, common_steps))

pub returns-then-not-reached-4 : goal.returns-then-not-reached-4
unfolding rule_of
returns-then-not-reached-4 c = let six : c.args.rule ≡ 6 = omega arith in rw six (grind (arith, common_steps))

pub returns-else-not-reached-4 : goal.returns-else-not-reached-4
unfolding rule_of
returns-else-not-reached-4 c = let six : c.args.rule ≡ 6 = omega arith in rw six (grind (arith, common_steps))
