-- The twelve cases hold: both sides compute.
-- Assumes nothing.
use mathlib.Core.Path.{refl}
use Rattle.isa.specs.Decode.{decode_of, entry_of, overview, columns}
use Rattle.isa.specs.Encode.{encode_of, fits, word_of}
use Rattle.alu.specs.Decimal.{above19, above9, below_10, decimal_sum, decimal_difference}
use Rattle.alu.specs.Difference.{difference_of}
use Rattle.alu.specs.Results.{binary_sum, binary_difference, add_of, subtract_of, operate_of, rotate_of, zero_of}
use Rattle.memory.specs.Address.{ix_of, address_of, register_of, indirect_of}
use Rattle.memory.specs.Cells.{is_set, with_flag}
use Rattle.memory.specs.Chip.{subseries_masks}
use Rattle.memory.specs.Range.{cells_in_range}
use Rattle.memory.specs.Read.{mix_of, port_of, read_of}
use Rattle.memory.specs.Registers.{ar_of}
use Rattle.memory.specs.Write.{kept_of, write_of, writes_applied}
use Rattle.peripherals.specs.Range.{peripherals_in_range}
use Rattle.peripherals.specs.Registers.{reset_peripherals}
use Rattle.peripherals.specs.Table.{control_registers}
use Rattle.machine.specs.Ranges.{control_in_range, marks_in_range, machine_in_range, input_in_range, signals_in_range, rom_in_range, all_in_range}
use Rattle.control.specs.Control.{onward_of, control_of}
use Rattle.operations.specs.Operands.{address_in, addresses_of, lacks_at}
use Rattle.operations.specs.Writes.{flags_after, arithmetic_writes, result_writes, rotate_writes, alu_writes, transfer_writes, writes_at, writes_of, holds_at, holds_of}
use Rattle.cpu.specs.Execute.{lacks_of, past_table, written_of, transfer_by, execute_of}
use Rattle.cpu.specs.Step.{fetch_of, advance_of, step_of}
use Rattle.step_laws.specs.Cases.{Cases}

pub twelve_cases : Cases
unfolding decode_of entry_of overview columns encode_of fits word_of above19 above9 below_10 decimal_sum decimal_difference difference_of binary_sum binary_difference add_of subtract_of operate_of rotate_of zero_of ix_of address_of register_of indirect_of is_set with_flag subseries_masks cells_in_range mix_of port_of read_of ar_of kept_of write_of writes_applied peripherals_in_range reset_peripherals control_registers control_in_range marks_in_range machine_in_range input_in_range signals_in_range rom_in_range all_in_range onward_of control_of address_in addresses_of flags_after arithmetic_writes result_writes rotate_writes alu_writes transfer_writes writes_at writes_of holds_at holds_of lacks_at lacks_of past_table written_of transfer_by execute_of fetch_of advance_of step_of
twelve_cases = refl
