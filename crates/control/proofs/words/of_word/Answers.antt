use Rattle.isa.specs.Decode.{decode_of}
use Rattle.isa.proofs.Overview.{op_below}
use Rattle.control.proofs.Opcodes.{arithmetic_flow, other_opcode}
use Rattle.control.proofs.words.of_word.Goals as goal

pub returns-then-op-lt7 : goal.returns-then-op-lt7
unfolding decode_of
returns-then-op-lt7 c = arithmetic_flow _ _ _ _ (op_below _ c.ranges.word.fits) c.if-op-lt7.true

pub returns-in_default : goal.returns-in_default
unfolding decode_of
returns-in_default c = other_opcode _ _ _ _ (op_below _ c.ranges.word.fits) c.if-op-lt7.false c.in_default.in_default-own.rest
