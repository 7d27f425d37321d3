-- RETSK alone returns with a skip, and it has one word.
-- Assumes nothing.
use mathlib.Core.Path.{◌≡◌}
use Prim.Native.Nat.{ℕ, ◌<◌}
use lib.Dec.{eqb}
use Rattle.isa.specs.Decode.{decode_of, entry_of, overview, columns}
use Rattle.peripherals.specs.Registers.{in_file, is_control}
use Rattle.peripherals.specs.Table.{control_registers}
use Rattle.control.specs.Flow.{word_flow}
use Rattle.control.proofs.OneWord as law
use Rattle.clearance.specs.Rules.{is_return_skip}

-- the word of RETSK
abbrev pub retsk : ℕ
retsk = 0b00111_001_1110_0000

one : law.One is_return_skip 0b001_1110_0000
unfolding decode_of entry_of overview columns in_file is_control control_registers
one = record { opcode = λ m x addr. tt; sub_word = tt; has = tt }

-- so a comparison tells
pub one_word : (w : ℕ) → w < 65536 → eqb w retsk ≡ is_return_skip (word_flow w)
one_word = law.one_word is_return_skip 0b001_1110_0000 one
