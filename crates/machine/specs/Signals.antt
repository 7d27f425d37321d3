-- What a host gives with a call: document 01's input record, and document 02's pulse bit "beside the input record" (E4).
-- Assumes nothing.
use Rattle.std.specs.Prelude.{ℕ}
use Rattle.machine.specs.declared.Input.{Input}

pub record Signals : Type 0 where
  pub input : Input
  pub pulse : ℕ

abbrev pub signals : Input → ℕ → Signals
signals i pulse = record { input = i; pulse = pulse }
