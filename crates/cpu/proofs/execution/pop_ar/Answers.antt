use mathlib.Core.Path.{refl}
use Rattle.control.specs.Control.{control_of}
use Rattle.operations.specs.Operands.{address_in, addresses_of, lacks_at}
use Rattle.operations.specs.Settings.{settings_of}
use Rattle.operations.specs.Writes.{writes_at, writes_of}
use Rattle.cpu.specs.Execute.{lacks_of, written_of, transfer_by, past_table}
use Rattle.cpu.proofs.Settled.{completes, handed_on, refuses}
use Rattle.cpu.proofs.execution.pop_ar.Goals as goal

pub returns-in_err-next : goal.returns-in_err-next
unfolding transfer_by control_of past_table written_of writes_of writes_at settings_of lacks_of lacks_at addresses_of address_in
returns-in_err-next c = λ rom signals p.
    rw (handed_on _ _ c.from_residual.ensures.1) (refuses _ rom signals _ _ p _ _ _ _ c.in_err-next.ensures)

pub returns : goal.returns
unfolding transfer_by control_of past_table written_of writes_of writes_at settings_of lacks_of lacks_at addresses_of address_in
returns c = λ rom signals p.
    completes _ rom signals _ _ p _ _ _ _ c.in_ok-next.next c.in_ok-next.ensures refl refl
    (rw (← c.top-top.ensures) c.write_ar.ensures)
