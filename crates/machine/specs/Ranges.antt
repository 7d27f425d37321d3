-- What is in range: document 01, refusal 1, with what document 02, E1 and E4, adds.
-- Assumes nothing.
use Rattle.std.specs.Prelude.{Bool, ◌&&◌, cond, List, ℕ, ◌^◌, eqb, ltb, leb, get_or, length}
use Rattle.laws.specs.Every.{every}
use Rattle.memory.specs.Chip.{Chip}
use Rattle.memory.specs.Range.{cells_in_range}
use Rattle.peripherals.specs.Range.{peripherals_in_range}
use Rattle.machine.specs.declared.Control.{Control}
use Rattle.machine.specs.declared.Input.{Input}
use Rattle.machine.specs.declared.Machine.{Machine}
use Rattle.machine.specs.Parts.{cells_of}
use Rattle.machine.specs.Signals.{Signals}

-- the record has five places for stacked addresses, whatever the chip
abbrev pub places : ℕ
places = 5

-- no stacked address too large, and a closed level is 0
abbrev pub level_in_range : Chip → Control → ℕ → Bool
level_in_range chip c k = cond (ltb k c.levels) (ltb (get_or c.stack k 0) (2 ^ chip.pc_bits)) (eqb (get_or c.stack k 0) 0)

-- PC not too large, not too many open levels, and each place
unfoldable pub control_in_range : Chip → Control → Bool
control_in_range chip c =
    ltb c.pc (2 ^ chip.pc_bits) && (leb c.levels chip.levels && every (level_in_range chip c) places)

-- the skip mark is 0 or 1, the standby mark none, HALT or STOP
unfoldable pub marks_in_range : Control → Bool
marks_in_range c = leb c.skip 1 && leb c.standby 2

unfoldable pub machine_in_range : Chip → Machine → Bool
machine_in_range chip m =
    cells_in_range chip (cells_of m)
    && (control_in_range chip m.control && (marks_in_range m.control && peripherals_in_range m.peripherals))

abbrev pub is_nibble : List ℕ → ℕ → Bool
is_nibble xs k = ltb (get_or xs k 0) 16

abbrev pub five_nibbles : List ℕ → Bool
five_nibbles xs = every (is_nibble xs) 5

-- five pins, five directions and a release bit
unfoldable pub input_in_range : Input → Bool
input_in_range i = five_nibbles i.pins && (five_nibbles i.directions && ltb i.release 2)

-- and beside it a pulse bit
unfoldable pub signals_in_range : Signals → Bool
signals_in_range s = input_in_range s.input && ltb s.pulse 2

-- 1 to so many words
unfoldable pub rom_in_range : Chip → List ℕ → Bool
rom_in_range chip rom = ltb 0 (length rom) && leb (length rom) chip.words

-- all that a step tests for refusal 1
unfoldable pub all_in_range : Chip → List ℕ → Machine → Signals → Bool
all_in_range chip rom m s = machine_in_range chip m && (signals_in_range s && rom_in_range chip rom)

-- a run tests its budget too
unfoldable pub budget_in_range : ℕ → Bool
budget_in_range budget = leb budget 65535
