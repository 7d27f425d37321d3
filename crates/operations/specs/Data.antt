-- What data an instruction works on: the cells, the pins of the ports, and the control registers, which give the ports' directions and
-- are what PEEK reads below 40H.
-- Assumes nothing.
use Rattle.std.specs.Prelude.{List, ℕ}
use Rattle.memory.specs.Chip.{Chip}
use Rattle.memory.specs.Read.{read_of}
use Rattle.peripherals.specs.Directions.{directions_of}
use Rattle.operations.specs.declared.Ports.{Ports}

pub record Data : Type 0 where
  pub cells : List ℕ
  pub pins : List ℕ
  pub registers : List ℕ

abbrev pub data_at : List ℕ → List ℕ → List ℕ → Data
data_at cells pins registers = record { cells = cells; pins = pins; registers = registers }

-- the same, of the cells and what the code reads besides
abbrev pub data_with : List ℕ → Ports → Data
data_with cells ports = data_at cells ports.pins.now ports.registers.now

-- a cell as an instruction reads it: "Port directions now come from the control registers" (document 02, E4)
abbrev pub read_at : Chip → Data → ℕ → ℕ
read_at chip d at = read_of chip d.cells d.pins (directions_of d.registers) at

-- what an instruction takes from elsewhere: the address on the stack's highest open level (POP AR), the ROM word at AR (MOVT), and
-- the timer's counter (GET)
pub record Sources : Type 0 where
  pub top : ℕ
  pub word : ℕ
  pub counter : ℕ
