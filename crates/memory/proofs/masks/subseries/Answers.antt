use Rattle.std.proofs.Common.{sym, arith}
use lib.ListN.{get_or-eq_default}
use Rattle.memory.specs.Chip.{subseries_masks}
use Rattle.memory.proofs.Staying.{whole}
use Rattle.memory.proofs.masks.subseries.Goals as goal

pub returns-in-116 : goal.returns-in-116
unfolding subseries_masks
returns-in-116 c = rw c.in-116.is

pub returns-in-121 : goal.returns-in-121
unfolding subseries_masks
returns-in-121 c = rw c.in-121.is

pub returns-in-125 : goal.returns-in-125
unfolding subseries_masks
returns-in-125 c = rw c.in-125.is

pub returns-in-117 : goal.returns-in-117
unfolding subseries_masks
returns-in-117 c = rw c.in-117.is

pub returns-in-122 : goal.returns-in-122
unfolding subseries_masks
returns-in-122 c = rw c.in-122.is

pub returns-in-123 : goal.returns-in-123
unfolding subseries_masks
returns-in-123 c = rw c.in-123.is

pub returns-in-111 : goal.returns-in-111
unfolding subseries_masks
returns-in-111 c = rw c.in-111.is

pub returns-in-128-to-255 : goal.returns-in-128-to-255
unfolding subseries_masks
returns-in-128-to-255 c = sym (get_or-eq_default subseries_masks 0 {n = c.args.at} (omega arith))

pub returns-in_default : goal.returns-in_default
returns-in_default c =
    sym (
    whole c.args.at (omega arith) (λ e. omega (arith, e)) (λ e. omega (arith, e)) (λ e. omega (arith, e)) (λ e. omega (arith, e)) (λ e. omega (arith, e))
    (λ e. omega (arith, e)) (λ e. omega (arith, e)))
