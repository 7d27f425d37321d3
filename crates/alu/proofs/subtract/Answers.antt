use native.Mathlib.Omega.{arith}
use Rattle.alu.specs.Results.{subtract_of}
use Rattle.alu.proofs.Rows.{binary_difference_lem, difference_rule, operands_row}
use Rattle.alu.proofs.subtract.Goals as goal

pub returns-then-bcd : goal.returns-then-bcd
unfolding subtract_of
returns-then-bcd c =
    rw (c.if-bcd.true, ← operands_row, c.decimal.ensures, c.difference.ensures) (difference_rule _ (omega arith))

pub returns : goal.returns
unfolding subtract_of
returns c = rw (c.if-bcd.false, ← operands_row) (binary_difference_lem _ (omega arith))
