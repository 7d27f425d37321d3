use Rattle.isa.proofs.Overview.{unlisted, op_below}
use Rattle.isa.specs.Decode.{decode_of, entry_of, overview}
use Rattle.isa.proofs.decoder.decode.Goals as goal

pub returns-in-0 : goal.returns-in-0
unfolding decode_of entry_of overview
returns-in-0 c = rw c.in-0.is c.register.ensures

pub returns-in-8 : goal.returns-in-8
unfolding decode_of entry_of overview
returns-in-8 c = rw c.in-8.is

pub returns-in-9 : goal.returns-in-9
unfolding decode_of entry_of overview
returns-in-9 c = rw c.in-9.is c.skip.ensures

pub returns-in-12 : goal.returns-in-12
unfolding decode_of entry_of overview
returns-in-12 c = rw c.in-12.is

pub returns-in-24 : goal.returns-in-24
unfolding decode_of entry_of overview
returns-in-24 c = rw c.in-24.is

pub returns-in-25 : goal.returns-in-25
unfolding decode_of entry_of overview
returns-in-25 c = rw c.in-25.is c.skip-in-25.ensures

pub returns-in-26 : goal.returns-in-26
unfolding decode_of entry_of overview
returns-in-26 c = rw c.in-26.is

pub returns-in-27 : goal.returns-in-27
unfolding decode_of entry_of overview
returns-in-27 c = rw c.in-27.is c.skip-in-27.ensures

pub returns-in-1 : goal.returns-in-1
unfolding decode_of entry_of overview
returns-in-1 c = rw c.in-1.is c.register-in-1.ensures

pub returns-in-2 : goal.returns-in-2
unfolding decode_of entry_of overview
returns-in-2 c = rw c.in-2.is c.register-in-2.ensures

pub returns-in-3 : goal.returns-in-3
unfolding decode_of entry_of overview
returns-in-3 c = rw c.in-3.is c.register-in-3.ensures

pub returns-in-4 : goal.returns-in-4
unfolding decode_of entry_of overview
returns-in-4 c = rw c.in-4.is c.register-in-4.ensures

pub returns-in-5 : goal.returns-in-5
unfolding decode_of entry_of overview
returns-in-5 c = rw c.in-5.is c.register-in-5.ensures

pub returns-in-6 : goal.returns-in-6
unfolding decode_of entry_of overview
returns-in-6 c = rw c.in-6.is c.register-in-6.ensures

pub returns-in-7 : goal.returns-in-7
unfolding decode_of entry_of overview
returns-in-7 c = rw c.in-7.is c.group_word.ensures

pub returns-in-10 : goal.returns-in-10
unfolding decode_of entry_of overview
returns-in-10 c = rw c.in-10.is

pub returns-in-11 : goal.returns-in-11
unfolding decode_of entry_of overview
returns-in-11 c = rw c.in-11.is c.skip-in-11.ensures

pub returns-in-16 : goal.returns-in-16
unfolding decode_of entry_of overview
returns-in-16 c = rw c.in-16.is c.immediate.ensures

pub returns-in-17 : goal.returns-in-17
unfolding decode_of entry_of overview
returns-in-17 c = rw c.in-17.is c.immediate-in-17.ensures

pub returns-in-18 : goal.returns-in-18
unfolding decode_of entry_of overview
returns-in-18 c = rw c.in-18.is c.immediate-in-18.ensures

pub returns-in-19 : goal.returns-in-19
unfolding decode_of entry_of overview
returns-in-19 c = rw c.in-19.is c.immediate-in-19.ensures

pub returns-in-20 : goal.returns-in-20
unfolding decode_of entry_of overview
returns-in-20 c = rw c.in-20.is c.immediate-in-20.ensures

pub returns-in-21 : goal.returns-in-21
unfolding decode_of entry_of overview
returns-in-21 c = rw c.in-21.is c.immediate-in-21.ensures

pub returns-in-22 : goal.returns-in-22
unfolding decode_of entry_of overview
returns-in-22 c = rw c.in-22.is c.immediate-in-22.ensures

pub returns-in-28 : goal.returns-in-28
unfolding decode_of entry_of overview
returns-in-28 c = rw c.in-28.is

pub returns-in-29 : goal.returns-in-29
unfolding decode_of entry_of overview
returns-in-29 c = rw c.in-29.is

pub returns-in-30 : goal.returns-in-30
unfolding decode_of entry_of overview
returns-in-30 c = rw c.in-30.is c.skip-in-30.ensures

pub returns-in-31 : goal.returns-in-31
unfolding decode_of entry_of overview
returns-in-31 c = rw c.in-31.is c.skip-in-31.ensures

pub returns-in_default : goal.returns-in_default
unfolding decode_of entry_of overview
returns-in_default c = unlisted _ _ _ _ (op_below c.args.word c.ranges.word.fits) c.in_default.in_default-own.rest
