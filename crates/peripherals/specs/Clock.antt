-- The clocks of the counter as the code names them, by TMCK.
-- Assumes nothing.
use Rattle.std.specs.Prelude.{ℕ}
use Rattle.peripherals.specs.declared.clock.Clock.{Clock}
use Rattle.peripherals.specs.declared.clock.Clock.TheVariants.{Cycles16, Cycles2, Cycles128, Pin}

abbrev pub clock_number : Clock → ℕ
clock_number Cycles16 = 0
clock_number Cycles2 = 1
clock_number Cycles128 = 2
clock_number Pin = 3
