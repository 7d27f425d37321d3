-- Where control goes after an instruction, whatever the data. Everything static, the clearance rules among it, sees an
-- instruction by its flow.
-- Assumes nothing.
use Rattle.std.specs.Prelude.{ℕ, Bool, true, false, cond, ◌==◌}
use Rattle.isa.specs.Answers.{Decoding, is, refused}
use Rattle.isa.specs.Decode.{decode_of}
use Rattle.isa.specs.declared.FixedOp.{FixedOp}
use Rattle.isa.specs.declared.FixedOp.TheVariants.{IncAr, IncIx, Movt, PushAr, PopAr, BrAr, CallAr, Ret, Retsk, Reti, Ei, Di, Nop}
use Rattle.isa.specs.declared.Instruction.{Instruction}
use Rattle.isa.specs.declared.Instruction.TheVariants.{AluRegister, AluImmediate, Skip, Rorc, Ld, St, MovToIndirect, MovFromIndirect, MovImmediate, Peek, Poke, Get, Put, Br, Call, Stop, Halt, Fixed}
use Rattle.machine.specs.declared.Refusal.TheVariants.{NoInstruction, Unsupported, NoRegister}
use Rattle.peripherals.specs.Registers.{in_file}
use Rattle.peripherals.specs.Table.{TMC, TMM}
use Rattle.control.specs.declared.ArOp.TheVariants as ar
use Rattle.control.specs.declared.Rest.TheVariants as rest
use Rattle.control.specs.declared.Flow.{Flow}
use Rattle.control.specs.declared.Flow.TheVariants.{Onward, Skips, Branches, Calls, Returns, ReadsTable, StandsBy, ByAr, Refused}

-- refusal 4: EI, DI, RETI
abbrev pub unsupported : Flow
unsupported = Refused Unsupported

-- refusal 30: "no such control register or peripheral", told by the word alone
abbrev pub onward_if : Bool → Flow
onward_if there = cond there Onward (Refused NoRegister)

-- PEEK and POKE
abbrev pub file_flow : ℕ → Flow
file_flow rf = onward_if (in_file rf)

-- "PUT to the counter and GET of the modulo register too" are refused: GET reads the counter, PUT writes the modulo register
abbrev pub get_flow : ℕ → Flow
get_flow p = onward_if (p == TMC)

abbrev pub put_flow : ℕ → Flow
put_flow p = onward_if (p == TMM)

abbrev pub fixed_flow : FixedOp → Flow
fixed_flow IncAr = Onward
fixed_flow IncIx = Onward
fixed_flow Movt = ReadsTable
fixed_flow PushAr = ByAr ar.Push
fixed_flow PopAr = ByAr ar.Pop
fixed_flow BrAr = ByAr ar.Br
fixed_flow CallAr = ByAr ar.Call
fixed_flow Ret = Returns false
fixed_flow Retsk = Returns true
fixed_flow Reti = unsupported
fixed_flow Ei = unsupported
fixed_flow Di = unsupported
fixed_flow Nop = Onward

abbrev pub flow_of : Instruction → Flow
flow_of (AluRegister op r m) = Onward
flow_of (AluImmediate op m n4) = Onward
flow_of (Skip op m n4) = Skips
flow_of (Rorc r) = Onward
flow_of (Ld r m) = Onward
flow_of (St m r) = Onward
flow_of (MovToIndirect r m) = Onward
flow_of (MovFromIndirect m r) = Onward
flow_of (MovImmediate m n4) = Onward
flow_of (Peek rf) = file_flow rf
flow_of (Poke rf) = file_flow rf
flow_of (Get p) = get_flow p
flow_of (Put p) = put_flow p
flow_of (Br addr) = Branches addr
flow_of (Call addr) = Calls addr
flow_of (Stop s) = StandsBy rest.Stop
flow_of (Halt h) = StandsBy rest.Halt
flow_of (Fixed op) = fixed_flow op

-- the flow of a word; refusal 3: the word is no instruction
abbrev pub decoded_flow : Decoding → Flow
decoded_flow (is i) = flow_of i
decoded_flow (refused n) = Refused NoInstruction

abbrev pub word_flow : ℕ → Flow
word_flow word = decoded_flow (decode_of word)

-- MOVT
abbrev pub reads_table : Flow → Bool
reads_table Onward = false
reads_table Skips = false
reads_table (Branches to) = false
reads_table (Calls to) = false
reads_table (Returns skip) = false
reads_table ReadsTable = true
reads_table (StandsBy rest) = false
reads_table (ByAr op) = false
reads_table (Refused q) = false
