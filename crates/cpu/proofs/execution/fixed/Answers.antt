use mathlib.Core.Path.{◌∙◌, ap}
use Prim.Native.Nat.{ℕ}
use Rattle.memory.specs.Chip.{chip_of}
use Rattle.control.specs.Control.{goes, jump_to, call_of, push_of}
use Rattle.control.specs.Transfers.{with_stack}
use Rattle.cpu.specs.Execute.{execute_of}
use mathlib.Core.Path.{refl}
use Rattle.cpu.proofs.Settled.{completes, moves}
use Rattle.memory.specs.Write.{writes_applied}
use Rattle.control.specs.Control.{control_of}
use Rattle.operations.specs.Operands.{address_in, addresses_of, lacks_at}
use Rattle.operations.specs.Settings.{settings_of}
use Rattle.operations.specs.Writes.{writes_at, writes_of}
use Rattle.cpu.specs.Execute.{lacks_of, written_of, transfer_by, past_table}
use Rattle.cpu.proofs.execution.fixed.Goals as goal

pub returns-in-IncAr : goal.returns-in-IncAr
unfolding transfer_by control_of past_table written_of writes_of writes_at settings_of writes_applied lacks_of lacks_at addresses_of address_in
returns-in-IncAr c = λ signals p. rw c.in-IncAr.is (completes _ _ signals _ _ p _ _ _ _ _ (c.onward.ensures _) refl refl c.increment_ar.ensures)

pub returns-in-IncIx : goal.returns-in-IncIx
unfolding transfer_by control_of past_table written_of writes_of writes_at settings_of writes_applied lacks_of lacks_at addresses_of address_in
returns-in-IncIx c = λ signals p. rw c.in-IncIx.is (completes _ _ signals _ _ p _ _ _ _ _ (c.onward-in-IncIx.ensures _) refl refl c.increment_ix.ensures)

pub returns-in-Movt : goal.returns-in-Movt
unfolding transfer_by control_of past_table written_of writes_of writes_at settings_of writes_applied lacks_of lacks_at addresses_of address_in
returns-in-Movt c = λ signals p. rw c.in-Movt.is (c.movt.ensures signals p _)

pub returns-in-PushAr : goal.returns-in-PushAr
unfolding transfer_by control_of past_table written_of writes_of writes_at settings_of writes_applied lacks_of lacks_at addresses_of address_in
returns-in-PushAr c = λ signals p.
    let s = c.args in
    rw c.in-PushAr.is
    (moves _ _ signals _ _ p _ _ c.push.result c.push.new.stack
    (c.push.ensures ∙ ap (λ (n : ℕ). push_of (chip_of s.model) n (with_stack s.stack.now s.regs)) c.ar.ensures) refl refl refl)

pub returns-in-PopAr : goal.returns-in-PopAr
unfolding transfer_by control_of past_table written_of writes_of writes_at settings_of writes_applied lacks_of lacks_at addresses_of address_in
returns-in-PopAr c = λ signals p. rw c.in-PopAr.is (c.pop_ar.ensures _ signals p)

pub returns-in-BrAr : goal.returns-in-BrAr
unfolding transfer_by control_of past_table written_of writes_of writes_at settings_of writes_applied lacks_of lacks_at addresses_of address_in
returns-in-BrAr c = λ signals p.
    let s = c.args in
    rw c.in-BrAr.is
    (completes _ _ signals _ _ p _ _ _ _ _
    (ap goes (c.jump.ensures s.stack.now ∙ ap (λ (n : ℕ). jump_to n (with_stack s.stack.now s.regs)) c.ar-in-BrAr.ensures))
    refl refl refl)

pub returns-in-CallAr : goal.returns-in-CallAr
unfolding transfer_by control_of past_table written_of writes_of writes_at settings_of writes_applied lacks_of lacks_at addresses_of address_in
returns-in-CallAr c = λ signals p.
    let s = c.args in
    rw c.in-CallAr.is
    (moves _ _ signals _ _ p _ _ c.call.result c.call.new.stack
    (c.call.ensures ∙ ap (λ (n : ℕ). call_of (chip_of s.model) n (with_stack s.stack.now s.regs)) c.ar-in-CallAr.ensures) refl refl refl)

pub returns-in-Ret : goal.returns-in-Ret
unfolding transfer_by control_of past_table written_of writes_of writes_at settings_of writes_applied lacks_of lacks_at addresses_of address_in
returns-in-Ret c = λ signals p. rw c.in-Ret.is (moves _ _ signals _ _ p _ _ c.ret.result c.ret.new.stack c.ret.ensures refl refl refl)

pub returns-in-Retsk : goal.returns-in-Retsk
unfolding transfer_by control_of past_table written_of writes_of writes_at settings_of writes_applied lacks_of lacks_at addresses_of address_in
returns-in-Retsk c = λ signals p. rw c.in-Retsk.is (moves _ _ signals _ _ p _ _ c.ret-in-Retsk.result c.ret-in-Retsk.new.stack c.ret-in-Retsk.ensures refl refl refl)

pub returns-in-Reti : goal.returns-in-Reti
unfolding transfer_by control_of past_table written_of writes_of writes_at settings_of writes_applied execute_of
returns-in-Reti c = λ signals p. rw c.in-Reti.is

pub returns-in-Ei : goal.returns-in-Ei
unfolding transfer_by control_of past_table written_of writes_of writes_at settings_of writes_applied execute_of
returns-in-Ei c = λ signals p. rw c.in-Ei.is

pub returns-in-Di : goal.returns-in-Di
unfolding transfer_by control_of past_table written_of writes_of writes_at settings_of writes_applied execute_of
returns-in-Di c = λ signals p. rw c.in-Di.is

pub returns-in-Nop : goal.returns-in-Nop
unfolding transfer_by control_of past_table written_of writes_of writes_at settings_of writes_applied lacks_of lacks_at addresses_of address_in
returns-in-Nop c = λ signals p. rw c.in-Nop.is (completes _ _ signals _ _ p _ _ _ _ _ (c.onward-in-Nop.ensures _) refl refl refl)
