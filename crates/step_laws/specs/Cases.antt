-- Document 01, "Numbers to check by": the twelve cases as one list under one statement. Proved in
-- proofs/Computed.antt.
-- Assumes nothing.
use Rattle.std.specs.Prelude.{◌≡◌, List, [], ◌∷◌, map, ℕ, get_or, set, replicate}
use Rattle.isa.specs.Answers.{Decoding, Encoding, is}
use Rattle.isa.specs.Decode.{decode_of}
use Rattle.isa.specs.Encode.{encode_of, word_of}
use Rattle.isa.specs.declared.AluOp.TheVariants.{Add, AddC, Sub}
use Rattle.isa.specs.declared.SkipOp.TheVariants.{Ske}
use Rattle.isa.specs.declared.Instruction.{Instruction}
use Rattle.isa.specs.declared.Instruction.TheVariants.{AluRegister, AluImmediate, Skip, Rorc, MovToIndirect, MovImmediate, Call}
use Rattle.memory.specs.Chip.{upd17132}
use Rattle.memory.specs.Names.{IXH, IXM, IXL, RPL, PSW, CY, IXE, BCD, MPE}
use Rattle.memory.specs.Write.{Write, ◌↤◌}
use Rattle.machine.specs.Parts.{cells_of, machine_of, reset_control}
use Rattle.machine.specs.Signals.{Signals, signals}
use Rattle.peripherals.specs.Registers.{reset_peripherals}
use Rattle.cpu.specs.Reply.{Reply, done, Step}
use Rattle.cpu.specs.Step.{step_of}

-- a case is a word and its instruction, or an instruction alone in a ROM, with the cells before its step and after it
pub data Case : Type 0 where
  word : Instruction → ℕ → Case
  step : Instruction → List Write → List Write → Case

-- what a case gives, and what it should give
pub data Given : Type 0 where
  words : Encoding → Decoding → Given
  stepped : Reply → List ℕ → Given

abbrev pub quiet : Signals
quiet = signals (record { pins = replicate 5 0; directions = replicate 5 0; release = 0 }) 0

abbrev pub filled : List Write → List ℕ → List ℕ
filled [] cells = cells
filled (w ∷ ws) cells = filled ws (set cells w.at w.value)

abbrev pub step_alone : Instruction → List Write → Step
step_alone i before = step_of upd17132 (word_of i ∷ []) quiet (machine_of (filled before (replicate 128 0)) reset_peripherals reset_control)

abbrev pub gives : Case → Given
gives (word i w) = words (encode_of i) (decode_of w)
gives (step i before after) =
    let s = step_alone i before in
    stepped s.reply (map (λ (w : Write). get_or (cells_of s.machine) w.at 0) after)

abbrev pub wants : Case → Given
wants (word i w) = words (record { refusal = 0; word = w }) (is i)
wants (step i before after) = stepped done (map (λ (w : Write). w.value) after)

-- 1 to 4 are words; 5 to 10 give a result, CY and Z with CMP 0, and CY before where it counts; 11 shows where m is by what
-- is written there, and 12 where @r is
abbrev pub cases : List Case
cases =
    word (AluRegister Add 3 0x2F) 0x02F3
    ∷ word (AluImmediate Add 0x2F 5) 0x82F5
    ∷ word (Skip Ske 0x10 8) 0x4908
    ∷ word (Call 0x010) 0xE010
    ∷ step (AluImmediate Add 0x20 7) ((0x20 ↤ 9) ∷ []) ((0x20 ↤ 0) ∷ (PSW ↤ 0b0110) ∷ [])
    ∷ step (AluImmediate Sub 0x20 5) ((0x20 ↤ 3) ∷ []) ((0x20 ↤ 0xE) ∷ (PSW ↤ 0b0100) ∷ [])
    ∷ step (AluImmediate AddC 0x20 9) ((0x20 ↤ 9) ∷ (RPL ↤ BCD) ∷ (PSW ↤ CY) ∷ []) ((0x20 ↤ 9) ∷ (PSW ↤ 0b0100) ∷ [])
    ∷ step (AluImmediate AddC 0x20 15) ((0x20 ↤ 15) ∷ (RPL ↤ BCD) ∷ (PSW ↤ CY) ∷ []) ((0x20 ↤ 0xD) ∷ (PSW ↤ 0b0100) ∷ [])
    ∷ step (AluImmediate Sub 0x20 10) ((0x20 ↤ 0) ∷ (RPL ↤ BCD) ∷ []) ((0x20 ↤ 0) ∷ (PSW ↤ 0b0110) ∷ [])
    ∷ step (Rorc 3) ((3 ↤ 0b1001) ∷ (PSW ↤ CY) ∷ []) ((3 ↤ 0b1100) ∷ (PSW ↤ CY) ∷ [])
    ∷ step (MovImmediate 0x61 5) ((IXM ↤ 1) ∷ (IXL ↤ 2) ∷ (PSW ↤ IXE) ∷ []) ((0x73 ↤ 5) ∷ (0x61 ↤ 0) ∷ [])
    ∷ step (MovToIndirect 5 0x34) ((5 ↤ 8) ∷ (0x34 ↤ 7) ∷ []) ((0x38 ↤ 7) ∷ (0x68 ↤ 0) ∷ [])
    ∷ step (MovToIndirect 5 0x34) ((5 ↤ 8) ∷ (0x34 ↤ 7) ∷ (IXH ↤ MPE) ∷ (IXM ↤ 6) ∷ []) ((0x68 ↤ 7) ∷ (0x38 ↤ 0) ∷ [])
    ∷ []

abbrev pub Cases : Type 0
Cases = map gives cases ≡ map wants cases
