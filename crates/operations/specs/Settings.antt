-- What an instruction makes of the peripherals: POKE of a control register, PUT to the modulo register. Every other leaves them. That
-- there is such a register, and that PUT goes to no other, is the flow's to tell, by refusal 30.
-- Assumes nothing.
use Rattle.std.specs.Prelude.{cond, List, ℕ}
use Rattle.isa.specs.declared.Instruction.{Instruction}
use Rattle.isa.specs.declared.Instruction.TheVariants.{AluRegister, AluImmediate, Skip, Rorc, Ld, St, MovToIndirect, MovFromIndirect, MovImmediate, Peek, Poke, Get, Put, Br, Call, Stop, Halt, Fixed}
use Rattle.memory.specs.Registers.{window_of, low_byte_of}
use Rattle.peripherals.specs.Registers.{is_data, poke_of, with_modulo}
use Rattle.peripherals.specs.declared.Peripherals.{Peripherals}

module _ (cells : List ℕ) (p : Peripherals) where
  unfoldable pub settings_of : Instruction → Peripherals
  settings_of (AluRegister op r m) = p
  settings_of (AluImmediate op m n4) = p
  settings_of (Skip op m n4) = p
  settings_of (Rorc r) = p
  settings_of (Ld r m) = p
  settings_of (St m r) = p
  settings_of (MovToIndirect r m) = p
  settings_of (MovFromIndirect m r) = p
  settings_of (MovImmediate m n4) = p
  settings_of (Peek rf) = p
  settings_of (Poke rf) = cond (is_data rf) p (poke_of p rf (window_of cells))
  settings_of (Get at) = p
  settings_of (Put at) = with_modulo p (low_byte_of cells)
  settings_of (Br addr) = p
  settings_of (Call addr) = p
  settings_of (Stop s) = p
  settings_of (Halt h) = p
  settings_of (Fixed op) = p
