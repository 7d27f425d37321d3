use Rattle.std.proofs.Common.{refl}
use Rattle.peripherals.specs.Registers.{reset_peripherals}
use Rattle.peripherals.specs.Table.{control_registers}
use Rattle.peripherals.proofs.Peripherals.reset.Goals as goal

pub returns : goal.returns
unfolding reset_peripherals control_registers
returns c = refl
