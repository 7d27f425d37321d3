-- The timer over steps from reset: document 02, E4, "The clock divider runs from reset". Proved in proofs/Times.antt.
-- Assumes nothing.
use Rattle.std.specs.Prelude.{◌≡◌, true, false, cond, List, [], ◌∷◌, ℕ, ◌+◌, ◌/◌, ◌%◌, ◌<◌, eqb, get_or}
use Rattle.laws.specs.Bit.{bit}
use Rattle.isa.specs.Answers.{is}
use Rattle.isa.specs.Decode.{decode_of}
use Rattle.isa.specs.declared.Instruction.{Instruction}
use Rattle.isa.specs.declared.Instruction.TheVariants.{Poke, Put}
use Rattle.memory.specs.Chip.{Chip}
use Rattle.machine.specs.Parts.{HALT, cells_of, is_marked, reset_machine}
use Rattle.machine.specs.Signals.{Signals}
use Rattle.machine.specs.declared.Machine.{Machine}
use Rattle.peripherals.specs.Registers.{is_on}
use Rattle.peripherals.specs.Table.{TM, TMEN}
use Rattle.peripherals.specs.Timer.{clock_of, comes_of}
use Rattle.peripherals.specs.TimerLaws.{Since, pulsed}
use Rattle.cpu.specs.Cycles.{next_cycles}
use Rattle.cpu.specs.Reply.{Reply, done, in_standby, refused}
use Rattle.cpu.specs.Run.{run_of}
use Rattle.cpu.specs.Step.{waits, step_of, ticked_by}

module _ (chip : Chip) (rom : List ℕ) where
  -- the cycles that the timer moves by in a step: those of a completed one, and one in a standing step in HALT
  abbrev pub moved_by : Machine → Reply → ℕ
  moved_by m done = next_cycles rom m
  moved_by m in_standby = cond (eqb m.control.standby HALT) 1 0
  moved_by m (refused n) = 0

  -- steps one after the other, whatever they answer, each with its own signals
  abbrev pub after_steps : List Signals → Machine → Machine
  after_steps [] m = m
  after_steps (s ∷ ss) m = after_steps ss (step_of chip rom s m).machine

  abbrev pub cycles_in : List Signals → Machine → ℕ
  cycles_in [] m = 0
  cycles_in (s ∷ ss) m = moved_by m (step_of chip rom s m).reply + cycles_in ss (step_of chip rom s m).machine

  -- the word at PC, where the step runs it, is neither POKE 11H nor PUT
  abbrev pub LeavesTimer : Machine → Reply → Type 0
  LeavesTimer m reply =
      reply ≡ done → is_marked m.control.skip ≡ false → (i : Instruction) → decode_of (get_or rom m.control.pc 0) ≡ is i
      → (i ≡ Poke 0x11 → ⊥) × ((p : ℕ) → i ≡ Put p → ⊥)

  abbrev pub AllLeaveTimer : List Signals → Machine → Type 0
  AllLeaveTimer [] m = Unit
  AllLeaveTimer (s ∷ ss) m = LeavesTimer m (step_of chip rom s m).reply × AllLeaveTimer ss (step_of chip rom s m).machine

  -- the pulses of so many cycles, one or none, and those of steps by what they move the timer
  abbrev pub pulse_of : Signals → Machine → ℕ → ℕ
  pulse_of s m cycles = bit (comes_of (clock_of m.peripherals.registers) m.peripherals.divider cycles s.pulse)

  abbrev pub pulses_by : Signals → Machine → Reply → ℕ
  pulses_by s m done = pulse_of s m (next_cycles rom m)
  pulses_by s m in_standby = cond (eqb m.control.standby HALT) (pulse_of s m 1) 0
  pulses_by s m (refused n) = 0

  abbrev pub pulses_in : List Signals → Machine → ℕ
  pulses_in [] m = 0
  pulses_in (s ∷ ss) m = pulses_by s m (step_of chip rom s m).reply + pulses_in ss (step_of chip rom s m).machine

  pub record TimeLaws : Type 0 where
    -- a step, so many cycles after reset
    pub step : (s : Signals) (m : Machine) (cycles : ℕ) → LeavesTimer m (step_of chip rom s m).reply → Since cycles m.peripherals
        → Since (cycles + moved_by m (step_of chip rom s m).reply) (step_of chip rom s m).machine.peripherals
    -- from reset, while none of them is POKE 11H or PUT
    pub counter : (ss : List Signals) → AllLeaveTimer ss reset_machine
        → (after_steps ss reset_machine).peripherals.counter ≡ cycles_in ss reset_machine / 16 % 256
    -- from reset, whatever the steps write: TMRES, a stopped timer and another clock among it
    pub divider : (ss : List Signals) → (after_steps ss reset_machine).peripherals.divider ≡ cycles_in ss reset_machine % 128
    -- with TMEN 1 from counter 0, while none of them is POKE 11H or PUT: the counter counts the pulses (which is a match: MatchLaws)
    pub counted : (ss : List Signals) (m : Machine) → is_on m.peripherals.registers TM TMEN ≡ true → m.peripherals.counter ≡ 0
        → AllLeaveTimer ss m → (after_steps ss m).peripherals.counter ≡ pulsed m.peripherals.modulo (pulses_in ss m)
    -- a run moves the divider by the cycles that it reports, refused or not, where it does not begin standing at release 0 (RunLaws.standing)
    pub run : (s : Signals) (m : Machine) (budget : ℕ) → m.peripherals.divider < 128 → waits chip rom s m ≡ false
        → (run_of chip rom s budget m).machine.peripherals.divider ≡ (m.peripherals.divider + (run_of chip rom s budget m).count.cycles) % 128

-- the tick touches no cell and no control
pub record TickPhase (cycles pulse : ℕ) (m : Machine) : Type 0 where
  pub cells : cells_of (ticked_by cycles pulse m) ≡ cells_of m
  pub control : (ticked_by cycles pulse m).control ≡ m.control
