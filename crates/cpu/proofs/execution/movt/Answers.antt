use mathlib.Core.Path.{refl, sym}
use Rattle.cpu.proofs.Phases.{past_rom, word_at}
use Rattle.cpu.proofs.Settled.{completes, handed_on, misses, refuses}
use Rattle.control.specs.Control.{control_of}
use Rattle.operations.specs.Operands.{address_in, addresses_of, lacks_at}
use Rattle.operations.specs.Settings.{settings_of}
use Rattle.operations.specs.Writes.{writes_at, writes_of}
use Rattle.cpu.specs.Execute.{lacks_of, written_of, transfer_by, past_table}
use Rattle.cpu.proofs.execution.movt.Goals as goal

pub returns-in_err-next : goal.returns-in_err-next
unfolding transfer_by control_of past_table written_of writes_of writes_at settings_of lacks_of lacks_at addresses_of address_in
returns-in_err-next c = λ signals p stack.
    rw (handed_on _ _ c.from_residual.ensures.1) (refuses _ _ signals _ stack p _ _ _ stack (c.in_err-next.ensures stack))

pub returns-in_default : goal.returns-in_default
unfolding transfer_by control_of past_table written_of writes_of writes_at settings_of lacks_of lacks_at addresses_of address_in
returns-in_default c = λ signals p stack.
    misses _ _ signals _ stack p _ _ stack c.in_ok-next.next (c.in_ok-next.ensures stack)
    (rw (← c.ar.ensures) (past_rom _ _ (sym c.in_default.ensures)))

pub returns : goal.returns
unfolding transfer_by control_of past_table written_of writes_of writes_at settings_of lacks_of lacks_at addresses_of address_in
returns c = λ signals p stack.
    let w = word_at _ _ _ (sym c.in-Some.ensures) in
    completes _ _ signals _ stack p _ _ _ stack c.in_ok-next.next (c.in_ok-next.ensures stack)
    (rw (← c.ar.ensures) w.0)
    refl
    (rw (← c.ar.ensures, w.1) c.write_buffer.ensures)
