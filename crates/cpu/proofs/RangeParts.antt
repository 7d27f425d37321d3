-- What a passed range test says.
-- Assumes nothing.
use mathlib.Core.Path.{◌≡◌}
use mathlib.Core.Bool.{true, ◌&&◌}
use mathlib.Core.List.{List}
use Prim.Native.Nat.{ℕ, ◌^◌, ◌<◌, ◌≤◌}
use borrow.Author.Tests.{ltb-true, leb-true}
use lib.Dec.{ltb, leb}
use Rattle.laws.specs.Every.{every}
use Rattle.laws.proofs.Booleans.{both}
use Rattle.memory.specs.Chip.{Chip}
use Rattle.memory.specs.Range.{cells_in_range}
use Rattle.machine.specs.Parts.{cells_of}
use Rattle.machine.specs.Ranges.{places, level_in_range, control_in_range, marks_in_range, machine_in_range, signals_in_range, rom_in_range, all_in_range}
use Rattle.machine.specs.declared.Control.{Control}
use Rattle.machine.specs.Signals.{Signals}
use Rattle.peripherals.specs.Range.{peripherals_in_range}
use Rattle.machine.specs.declared.Machine.{Machine}

module _ (chip : Chip) where
  pub all_parts : (rom : List ℕ) (m : Machine) (s : Signals) → all_in_range chip rom m s ≡ true
      → (machine_in_range chip m ≡ true) × ((signals_in_range s ≡ true) × (rom_in_range chip rom ≡ true))
  unfolding all_in_range
  all_parts rom m s e =
      let f = both (machine_in_range chip m) (signals_in_range s && rom_in_range chip rom) e in
      (f.0, both (signals_in_range s) (rom_in_range chip rom) f.1)

  pub machine_parts : (m : Machine) → machine_in_range chip m ≡ true
      → (cells_in_range chip (cells_of m) ≡ true)
      × ((control_in_range chip m.control ≡ true) × ((marks_in_range m.control ≡ true) × (peripherals_in_range m.peripherals ≡ true)))
  unfolding machine_in_range
  machine_parts m e =
      let f = both (cells_in_range chip (cells_of m)) _ e in
      let g = both (control_in_range chip m.control) _ f.1 in
      (f.0, (g.0, both (marks_in_range m.control) (peripherals_in_range m.peripherals) g.1))

  pub control_parts : (c : Control) → control_in_range chip c ≡ true
      → (c.pc < 2 ^ chip.pc_bits) × ((c.levels ≤ chip.levels) × (every (level_in_range chip c) places ≡ true))
  unfolding control_in_range
  control_parts c e =
      let f = both (ltb c.pc (2 ^ chip.pc_bits)) (leb c.levels chip.levels && every (level_in_range chip c) places) e in
      let g = both (leb c.levels chip.levels) (every (level_in_range chip c) places) f.1 in
      (ltb-true c.pc (2 ^ chip.pc_bits) f.0, (leb-true c.levels chip.levels g.0, g.1))

pub marks_parts : (c : Control) → marks_in_range c ≡ true → (c.skip ≤ 1) × (c.standby ≤ 2)
unfolding marks_in_range
marks_parts c e =
    let f = both (leb c.skip 1) (leb c.standby 2) e in
    (leb-true c.skip 1 f.0, leb-true c.standby 2 f.1)
