-- What an instruction sets, by cases: nothing, or what POKE of a control register or PUT makes of the peripherals.
-- Assumes nothing.
use mathlib.Core.List.{List}
use Prim.Native.Nat.{ℕ}
use Rattle.isa.specs.declared.Instruction.{Instruction}
use Rattle.isa.specs.declared.Instruction.TheVariants.{AluRegister, AluImmediate, Skip, Rorc, Ld, St, MovToIndirect, MovFromIndirect, MovImmediate, Peek, Poke, Get, Put, Br, Call, Stop, Halt, Fixed}
use Rattle.laws.proofs.Booleans.{either}
use Rattle.memory.specs.Registers.{window_of, low_byte_of}
use Rattle.peripherals.specs.Registers.{is_data, poke_of, with_modulo}
use Rattle.peripherals.specs.declared.Peripherals.{Peripherals}
use Rattle.operations.specs.Settings.{settings_of}

module _ (cells : List ℕ) (p : Peripherals) (P : Instruction → Peripherals → Type 0) (leave : (i : Instruction) → P i p)
    (poke : (rf : ℕ) → P (Poke rf) (poke_of p rf (window_of cells))) (put : (at : ℕ) → P (Put at) (with_modulo p (low_byte_of cells))) where
  pub sets : (i : Instruction) → P i (settings_of cells p i)
  unfolding settings_of
  sets (AluRegister op r m) = leave (AluRegister op r m)
  sets (AluImmediate op m n4) = leave (AluImmediate op m n4)
  sets (Skip op m n4) = leave (Skip op m n4)
  sets (Rorc r) = leave (Rorc r)
  sets (Ld r m) = leave (Ld r m)
  sets (St m r) = leave (St m r)
  sets (MovToIndirect r m) = leave (MovToIndirect r m)
  sets (MovFromIndirect m r) = leave (MovFromIndirect m r)
  sets (MovImmediate m n4) = leave (MovImmediate m n4)
  sets (Peek rf) = leave (Peek rf)
  sets (Poke rf) = either (P (Poke rf)) (is_data rf) p (poke_of p rf (window_of cells)) (leave (Poke rf)) (poke rf)
  sets (Get at) = leave (Get at)
  sets (Put at) = put at
  sets (Br addr) = leave (Br addr)
  sets (Call addr) = leave (Call addr)
  sets (Stop s) = leave (Stop s)
  sets (Halt h) = leave (Halt h)
  sets (Fixed op) = leave (Fixed op)
