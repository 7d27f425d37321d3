-- What starts in range and stays there. Proved in proofs/Writes.antt; of the tick see TickLaws.
-- Assumes nothing.
use Rattle.std.specs.Prelude.{◌≡◌, ℕ, ◌<◌, true, slice_index}
use Rattle.peripherals.specs.Directions.{directions_of}
use Rattle.peripherals.specs.Range.{peripherals_in_range}
use Rattle.peripherals.specs.Registers.{poke_of, with_modulo, reset_peripherals}
use Rattle.peripherals.specs.declared.Peripherals.{Peripherals}

pub record PeripheralLaws (p : Peripherals) : Type 0 where
  pub start : peripherals_in_range reset_peripherals ≡ true
  pub poked : (rf v : ℕ) → peripherals_in_range p ≡ true → peripherals_in_range (poke_of p rf v) ≡ true
  pub put : (v : ℕ) → v < 256 → peripherals_in_range p ≡ true → peripherals_in_range (with_modulo p v) ≡ true
  -- in range the directions are nibbles
  pub directed : (k : ℕ) → peripherals_in_range p ≡ true → slice_index (directions_of p.registers) k < 16
