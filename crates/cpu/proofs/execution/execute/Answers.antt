use mathlib.Core.Path.{◌∙◌, ap, refl, sym}
use borrow.Author.Tests.{not-true, not-false, eq-eqb, ne_eqb}
use mathlib.Core.Bool.{Bool}
use Rattle.memory.specs.Chip.{chip_of}
use Rattle.memory.specs.Write.{writes_applied}
use Rattle.control.specs.Control.{control_of, onward_of}
use Rattle.control.specs.Transfers.{with_stack}
use Rattle.operations.specs.Operands.{address_in, addresses_of, lacks_at}
use Rattle.operations.specs.Settings.{settings_of}
use Rattle.operations.specs.Writes.{holds_at, writes_at, writes_of}
use Rattle.cpu.specs.Execute.{execute_of, lacks_of, written_of, transfer_by, past_table}
use Rattle.cpu.proofs.Settled.{carried, completes, held, lacked, moves, told, written}
use Rattle.cpu.proofs.execution.execute.Goals as goal

pub returns-in_err-present-in-AluRegister : goal.returns-in_err-present-in-AluRegister
returns-in_err-present-in-AluRegister c = λ directions release pulse.
    lacked _ _ _ _ _ _ _ _ _ c.locate-a.ensures _ c.in_err-present-in-AluRegister.ensures _ c.from_residual.ensures.1

pub returns-in-AluRegister : goal.returns-in-AluRegister
unfolding writes_at
returns-in-AluRegister c = λ directions release pulse.
    let g = c in
    carried _ _ _ _ _ _ _ _ _ g.locate-a.ensures _ g.in_ok-present-in-AluRegister.ensures _ g.in-AluRegister.is refl
    _ _ (c.onward.ensures _) (rw (← c.read-b.ensures) c.operate.ensures)

pub returns-in_err-present-in-AluImmediate : goal.returns-in_err-present-in-AluImmediate
returns-in_err-present-in-AluImmediate c = λ directions release pulse.
    lacked _ _ _ _ _ _ _ _ _ c.locate-a.ensures _ c.in_err-present-in-AluImmediate.ensures _ c.from_residual-in_err-present-in-AluImmediate.ensures.1

pub returns-in-AluImmediate : goal.returns-in-AluImmediate
unfolding writes_at
returns-in-AluImmediate c = λ directions release pulse.
    let g = c in
    carried _ _ _ _ _ _ _ _ _ g.locate-a.ensures _ g.in_ok-present-in-AluImmediate.ensures _ g.in-AluImmediate.is refl
    _ _ (c.onward-in-AluImmediate.ensures _) c.operate-in-AluImmediate.ensures

pub returns-in_err-present-in-Skip : goal.returns-in_err-present-in-Skip
returns-in_err-present-in-Skip c = λ directions release pulse.
    lacked _ _ _ _ _ _ _ _ _ c.locate-a.ensures _ c.in_err-present-in-Skip.ensures _ c.from_residual-in_err-present-in-Skip.ensures.1

pub returns-in-Skip : goal.returns-in-Skip
unfolding transfer_by control_of past_table writes_at holds_at
returns-in-Skip c = λ directions release pulse.
    let s = c.args in
    let found = rw c.in-Skip.is at c.locate-a.ensures in
    let there = held _ _ _ _ _ _ _ _ _ found _ c.in_ok-present-in-Skip.ensures in
    rw c.in-Skip.is
    (completes _ _ _ _ _ _ _ _ _ _ _
    (c.onward-in-Skip.ensures _ ∙ ap (λ (h : Bool). onward_of (chip_of s.model) h (with_stack s.stack.now s.regs)) (c.skip-holds.ensures.1 ∙ told _ _ _ _ found))
    refl there (written _ _ _ _ _ _ _ _ _ found _ c.skip-holds.ensures.0))

pub returns-in_err-present-in-Rorc : goal.returns-in_err-present-in-Rorc
returns-in_err-present-in-Rorc c = λ directions release pulse.
    lacked _ _ _ _ _ _ _ _ _ c.locate-a.ensures _ c.in_err-present-in-Rorc.ensures _ c.from_residual-in_err-present-in-Rorc.ensures.1

pub returns-in-Rorc : goal.returns-in-Rorc
unfolding writes_at
returns-in-Rorc c = λ directions release pulse.
    let g = c in
    carried _ _ _ _ _ _ _ _ _ g.locate-a.ensures _ g.in_ok-present-in-Rorc.ensures _ g.in-Rorc.is refl
    _ _ (c.onward-in-Rorc.ensures _) c.rorc.ensures

pub returns-in_err-present-in-Ld : goal.returns-in_err-present-in-Ld
returns-in_err-present-in-Ld c = λ directions release pulse.
    lacked _ _ _ _ _ _ _ _ _ c.locate-a.ensures _ c.in_err-present-in-Ld.ensures _ c.from_residual-in_err-present-in-Ld.ensures.1

pub returns-in-Ld : goal.returns-in-Ld
unfolding writes_at
returns-in-Ld c = λ directions release pulse.
    let g = c in
    carried _ _ _ _ _ _ _ _ _ g.locate-a.ensures _ g.in_ok-present-in-Ld.ensures _ g.in-Ld.is refl
    _ _ (c.onward-in-Ld.ensures _) c.transfer.ensures

pub returns-in_err-present-in-St : goal.returns-in_err-present-in-St
returns-in_err-present-in-St c = λ directions release pulse.
    lacked _ _ _ _ _ _ _ _ _ c.locate-a.ensures _ c.in_err-present-in-St.ensures _ c.from_residual-in_err-present-in-St.ensures.1

pub returns-in-St : goal.returns-in-St
unfolding writes_at
returns-in-St c = λ directions release pulse.
    let g = c in
    carried _ _ _ _ _ _ _ _ _ g.locate-a.ensures _ g.in_ok-present-in-St.ensures _ g.in-St.is refl
    _ _ (c.onward-in-St.ensures _) c.transfer-in-St.ensures

pub returns-in_err-present-in-MovToIndirect : goal.returns-in_err-present-in-MovToIndirect
returns-in_err-present-in-MovToIndirect c = λ directions release pulse.
    lacked _ _ _ _ _ _ _ _ _ c.locate-a.ensures _ c.in_err-present-in-MovToIndirect.ensures _ c.from_residual-in_err-present-in-MovToIndirect.ensures.1

pub returns-in-MovToIndirect : goal.returns-in-MovToIndirect
unfolding writes_at
returns-in-MovToIndirect c = λ directions release pulse.
    let g = c in
    carried _ _ _ _ _ _ _ _ _ g.locate-a.ensures _ g.in_ok-present-in-MovToIndirect.ensures _ g.in-MovToIndirect.is refl
    _ _ (c.onward-in-MovToIndirect.ensures _) c.transfer-in-MovToIndirect.ensures

pub returns-in_err-present-in-MovFromIndirect : goal.returns-in_err-present-in-MovFromIndirect
returns-in_err-present-in-MovFromIndirect c = λ directions release pulse.
    lacked _ _ _ _ _ _ _ _ _ c.locate-a.ensures _ c.in_err-present-in-MovFromIndirect.ensures _ c.from_residual-in_err-present-in-MovFromIndirect.ensures.1

pub returns-in-MovFromIndirect : goal.returns-in-MovFromIndirect
unfolding writes_at
returns-in-MovFromIndirect c = λ directions release pulse.
    let g = c in
    carried _ _ _ _ _ _ _ _ _ g.locate-a.ensures _ g.in_ok-present-in-MovFromIndirect.ensures _ g.in-MovFromIndirect.is refl
    _ _ (c.onward-in-MovFromIndirect.ensures _) c.transfer-in-MovFromIndirect.ensures

pub returns-in_err-present-in-MovImmediate : goal.returns-in_err-present-in-MovImmediate
returns-in_err-present-in-MovImmediate c = λ directions release pulse.
    lacked _ _ _ _ _ _ _ _ _ c.locate-a.ensures _ c.in_err-present-in-MovImmediate.ensures _ c.from_residual-in_err-present-in-MovImmediate.ensures.1

pub returns-in-MovImmediate : goal.returns-in-MovImmediate
unfolding writes_at writes_applied
returns-in-MovImmediate c = λ directions release pulse.
    let g = c in
    carried _ _ _ _ _ _ _ _ _ g.locate-a.ensures _ g.in_ok-present-in-MovImmediate.ensures _ g.in-MovImmediate.is refl
    _ _ (c.onward-in-MovImmediate.ensures _) c.store.ensures

pub returns-in_err-present-in-Peek : goal.returns-in_err-present-in-Peek
returns-in_err-present-in-Peek c = λ directions release pulse.
    lacked _ _ _ _ _ _ _ _ _ c.locate-a.ensures _ c.in_err-present-in-Peek.ensures _ c.from_residual-in_err-present-in-Peek.ensures.1

pub returns-then-not-in_file : goal.returns-then-not-in_file
unfolding execute_of transfer_by control_of
returns-then-not-in_file c = λ directions release pulse. rw (c.in-Peek.is, sym c.in_file.ensures ∙ not-true _ c.if-not-in_file.true-raw)

pub returns-in-Peek : goal.returns-in-Peek
unfolding writes_at writes_applied
returns-in-Peek c = λ directions release pulse.
    let g = c in
    carried _ _ _ _ _ _ _ _ _ g.locate-a.ensures _ g.in_ok-present-in-Peek.ensures _ g.in-Peek.is
    (rw (sym c.in_file.ensures ∙ not-false _ c.if-not-in_file.false-raw))
    _ _ (c.onward-in-Peek.ensures _) c.peek.ensures

pub returns-in_err-present-in-Poke : goal.returns-in_err-present-in-Poke
returns-in_err-present-in-Poke c = λ directions release pulse.
    lacked _ _ _ _ _ _ _ _ _ c.locate-a.ensures _ c.in_err-present-in-Poke.ensures _ c.from_residual-in_err-present-in-Poke.ensures.1

pub returns-then-not-in_file-2 : goal.returns-then-not-in_file-2
unfolding execute_of transfer_by control_of
returns-then-not-in_file-2 c = λ directions release pulse. rw (c.in-Poke.is, sym c.in_file-in-Poke.ensures ∙ not-true _ c.if-not-in_file-2.true-raw)

pub returns-in-Poke : goal.returns-in-Poke
unfolding writes_at writes_applied
returns-in-Poke c = λ directions release pulse.
    let g = c in
    carried _ _ _ _ _ _ _ _ _ g.locate-a.ensures _ g.in_ok-present-in-Poke.ensures _ g.in-Poke.is
    (rw (sym c.in_file-in-Poke.ensures ∙ not-false _ c.if-not-in_file-2.false-raw))
    _ _ (c.onward-in-Poke.ensures _) c.poke.ensures

pub returns-then-p-ne-TMC : goal.returns-then-p-ne-TMC
unfolding execute_of transfer_by control_of
returns-then-p-ne-TMC c = λ directions release pulse. rw (c.in-Get.is, ne_eqb _ _ c.if-p-ne-TMC.true)

pub returns-in-Get : goal.returns-in-Get
unfolding transfer_by control_of past_table written_of writes_of writes_at writes_applied lacks_of lacks_at addresses_of address_in
returns-in-Get c = λ directions release pulse.
    let there = eq-eqb _ _ c.if-p-ne-TMC.false in
    rw c.in-Get.is
    (completes _ _ _ _ _ _ _ _ _ _ _ (rw there (c.onward-in-Get.ensures _)) (rw there) refl c.write_low_byte.ensures)

pub returns-then-p-ne-TMM : goal.returns-then-p-ne-TMM
unfolding execute_of transfer_by control_of
returns-then-p-ne-TMM c = λ directions release pulse. rw (c.in-Put.is, ne_eqb _ _ c.if-p-ne-TMM.true)

pub returns-in-Put : goal.returns-in-Put
unfolding transfer_by control_of past_table written_of writes_of writes_at writes_applied lacks_of lacks_at addresses_of address_in
returns-in-Put c = λ directions release pulse.
    let there = eq-eqb _ _ c.if-p-ne-TMM.false in
    rw c.in-Put.is
    (completes _ _ _ _ _ _ _ _ _ _ _ (rw there (c.onward-in-Put.ensures _)) (rw there) refl refl)

pub returns-in-Br : goal.returns-in-Br
unfolding transfer_by control_of past_table written_of writes_of writes_at writes_applied settings_of lacks_of lacks_at addresses_of address_in
returns-in-Br c = λ directions release pulse.
    let s = c.args in
    rw c.in-Br.is
    (moves _ _ _ _ _ _ _ _ c.branch-regs.result s.stack.now (c.branch-regs.ensures s.stack.now) refl refl refl)

pub returns-in-Call : goal.returns-in-Call
unfolding transfer_by control_of past_table written_of writes_of writes_at writes_applied settings_of lacks_of lacks_at addresses_of address_in
returns-in-Call c = λ directions release pulse.
    rw c.in-Call.is
    (moves _ _ _ _ _ _ _ _ c.call_in_reach.result c.call_in_reach.new.stack c.call_in_reach.ensures refl refl refl)

pub returns-in-Stop : goal.returns-in-Stop
unfolding transfer_by control_of past_table written_of writes_of writes_at writes_applied settings_of lacks_of lacks_at addresses_of address_in
returns-in-Stop c = λ directions release pulse. rw c.in-Stop.is (completes _ _ _ _ _ _ _ _ _ _ _ (c.stand.ensures _) refl refl refl)

pub returns-in-Halt : goal.returns-in-Halt
unfolding transfer_by control_of past_table written_of writes_of writes_at writes_applied settings_of lacks_of lacks_at addresses_of address_in
returns-in-Halt c = λ directions release pulse. rw c.in-Halt.is (completes _ _ _ _ _ _ _ _ _ _ _ (c.stand-in-Halt.ensures _) refl refl refl)

pub returns-in-Fixed : goal.returns-in-Fixed
unfolding settings_of
returns-in-Fixed c = λ directions release pulse. rw c.in-Fixed.is (c.fixed.ensures _ _)
