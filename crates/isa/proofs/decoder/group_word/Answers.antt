use Rattle.std.proofs.Common.{arith}
use mathlib.Core.Path.{◌∙◌}
use Rattle.isa.proofs.Group.{gap₁, gap₂, gap₃, gap₄}
use Rattle.isa.proofs.Group.{at_sub, column_of, row_of, sixteen, unlisted}
use Rattle.isa.specs.Decode.{columns}
use Rattle.isa.proofs.decoder.group_word.Goals as goal

pub returns-in-2 : goal.returns-in-2
unfolding columns
returns-in-2 c = let w = c.args.word in rw (column_of w, row_of w, c.in-2.is)

pub returns-in-3 : goal.returns-in-3
unfolding columns
returns-in-3 c = let w = c.args.word in rw (column_of w, row_of w, c.in-3.is)

pub returns-in-10 : goal.returns-in-10
unfolding columns
returns-in-10 c = let w = c.args.word in rw (column_of w, row_of w, c.in-10.is)

pub returns-in-224 : goal.returns-in-224
unfolding columns
returns-in-224 c = c.fixed-in-224.ensures ∙ at_sub _ _ c.in-224.is

pub returns-in-480 : goal.returns-in-480
unfolding columns
returns-in-480 c = c.fixed-in-480.ensures ∙ at_sub _ _ c.in-480.is

pub returns-in-240 : goal.returns-in-240
unfolding columns
returns-in-240 c = c.fixed-in-240.ensures ∙ at_sub _ _ c.in-240.is

pub returns-in-496 : goal.returns-in-496
unfolding columns
returns-in-496 c = c.fixed-in-496.ensures ∙ at_sub _ _ c.in-496.is

pub returns-in-752-to-767 : goal.returns-in-752-to-767
unfolding columns
returns-in-752-to-767 c = rw (sixteen 47 c.args.word (omega arith) (omega arith))

pub returns-in_default-2-2 : goal.returns-in_default-2-2
returns-in_default-2-2 c =
    let o = c in
    unlisted _ o.in_default.in_default-own.rest o.in_default-2.in_default-own.rest (gap₂ _ (omega arith) (omega arith))

pub returns-in_default-2-3 : goal.returns-in_default-2-3
returns-in_default-2-3 c =
    let o = c in
    unlisted _ o.in_default.in_default-own.rest o.in_default-2.in_default-own.rest (gap₃ _ (omega arith) (omega arith))

pub returns-in_default-2-4 : goal.returns-in_default-2-4
returns-in_default-2-4 c =
    let o = c in
    unlisted _ o.in_default.in_default-own.rest o.in_default-2.in_default-own.rest (gap₄ _ (omega arith))

pub returns-in-11 : goal.returns-in-11
unfolding columns
returns-in-11 c = let w = c.args.word in rw (column_of w, row_of w, c.in-11.is)

pub returns-in-16 : goal.returns-in-16
unfolding columns
returns-in-16 c = c.fixed.ensures ∙ at_sub _ _ c.in-16.is

pub returns-in-64 : goal.returns-in-64
unfolding columns
returns-in-64 c = c.fixed-in-64.ensures ∙ at_sub _ _ c.in-64.is

pub returns-in-80 : goal.returns-in-80
unfolding columns
returns-in-80 c = c.fixed-in-80.ensures ∙ at_sub _ _ c.in-80.is

pub returns-in-128 : goal.returns-in-128
unfolding columns
returns-in-128 c = c.fixed-in-128.ensures ∙ at_sub _ _ c.in-128.is

pub returns-in-144 : goal.returns-in-144
unfolding columns
returns-in-144 c = c.fixed-in-144.ensures ∙ at_sub _ _ c.in-144.is

pub returns-in-192 : goal.returns-in-192
unfolding columns
returns-in-192 c = c.fixed-in-192.ensures ∙ at_sub _ _ c.in-192.is

pub returns-in-208 : goal.returns-in-208
unfolding columns
returns-in-208 c = c.fixed-in-208.ensures ∙ at_sub _ _ c.in-208.is

pub returns-in-1248 : goal.returns-in-1248
unfolding columns
returns-in-1248 c = c.fixed-in-1248.ensures ∙ at_sub _ _ c.in-1248.is

pub returns-in-1264 : goal.returns-in-1264
unfolding columns
returns-in-1264 c = c.fixed-in-1264.ensures ∙ at_sub _ _ c.in-1264.is

pub returns-in-112-to-127 : goal.returns-in-112-to-127
unfolding columns
returns-in-112-to-127 c = rw (sixteen 7 c.args.word (omega arith) (omega arith))

pub returns-in-1008-to-1023 : goal.returns-in-1008-to-1023
unfolding columns
returns-in-1008-to-1023 c = rw (sixteen 63 c.args.word (omega arith) (omega arith))

pub returns-in_default-2 : goal.returns-in_default-2
unfolding columns
returns-in_default-2 c = unlisted _ c.in_default.in_default-own.rest c.in_default-2.in_default-own.rest (gap₁ _ (omega arith))
