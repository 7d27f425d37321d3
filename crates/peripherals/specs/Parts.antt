-- The peripherals whose registers stand apart from the timer, as the code keeps them while it steps.
-- Assumes nothing.
use Rattle.std.specs.Prelude.{ℕ, List}
use Rattle.peripherals.specs.declared.Peripherals.{Peripherals}
use Rattle.peripherals.specs.declared.Timer.{Timer}

abbrev pub with_timer : List ℕ → Timer → Peripherals
with_timer registers t =
    record { registers = registers; modulo = t.modulo; counter = t.counter; divider = t.divider }
