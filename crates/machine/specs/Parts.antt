-- The machine's record and its parts: document 01, "The machine's record".
-- Assumes nothing.
use Rattle.std.specs.Prelude.{Bool, not, List, ℕ, eqb, replicate}
use Rattle.memory.specs.Range.{reset_memory}
use Rattle.peripherals.specs.Registers.{reset_peripherals}
use Rattle.peripherals.specs.declared.Peripherals.{Peripherals}
use Rattle.machine.specs.declared.Control.{Control}
use Rattle.machine.specs.declared.Machine.{Machine}

-- what stands in the cells
abbrev pub cells_of : Machine → List ℕ
cells_of m = m.memory.cells

-- whether a mark is set
abbrev pub is_marked : ℕ → Bool
is_marked mark = not (eqb mark 0)

-- the standby marks: document 02, E4, "the standing mark tells the two apart"
abbrev pub HALT : ℕ
HALT = 1

abbrev pub STOP : ℕ
STOP = 2

-- the record put together
abbrev pub machine_of : List ℕ → Peripherals → Control → Machine
machine_of cells p c = record { memory = record { cells = cells }; peripherals = p; control = c }

-- the record with one part another
abbrev pub with_cells : List ℕ → Machine → Machine
with_cells cells m = machine_of cells m.peripherals m.control

abbrev pub with_peripherals : Peripherals → Machine → Machine
with_peripherals p m = machine_of (cells_of m) p m.control

abbrev pub with_control : Control → Machine → Machine
with_control c m = machine_of (cells_of m) m.peripherals c

-- "Reset gives all zeros and no mark"; the peripherals start as source document 000 says
abbrev pub reset_control : Control
reset_control = record { pc = 0; stack = replicate 5 0; levels = 0; skip = 0; standby = 0 }

abbrev pub reset_machine : Machine
reset_machine = record { memory = reset_memory; peripherals = reset_peripherals; control = reset_control }
