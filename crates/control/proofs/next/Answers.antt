use Rattle.std.proofs.Common.{pow_pos}
use Rattle.memory.proofs.Numbers.{next_wraps}
use Rattle.control.proofs.next.Goals as goal

pub nonzero_rem-result : goal.nonzero_rem-result
nonzero_rem-result c = rw c.addresses.ensures (pow_pos _)

pub returns : goal.returns
returns c = rw c.addresses.ensures (next_wraps c.args.model _)
