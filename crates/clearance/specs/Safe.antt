-- Demand 3: whatever list of calls is made on a passed ROM from reset, no call is refused that has its own inputs and budget
-- in range, none with a number other than 1, and at every moment the word about to run lies in the ROM and the open calls
-- lie in its range (document 02, E5). On a chip that lacks cells a call may also be refused with 31, and the moments hold then too
-- (document 02, E1).
-- Assumes nothing.
use Rattle.std.specs.Prelude.{◌≡◌, true, false, List, [], ◌∷◌, ◌⊎◌, ℕ, ◌+◌, ◌<◌, ◌≤◌, length}
use Rattle.memory.specs.Chip.{Chip, is_whole}
use Rattle.machine.specs.Parts.{reset_machine}
use Rattle.cpu.specs.Run.{run_of}
use Rattle.machine.specs.Signals.{Signals}
use Rattle.machine.specs.declared.Machine.{Machine}
use Rattle.clearance.specs.Calls.{HostCall, step, run, own_in_range, Tally, no_calls, run_tally, refusal_at, left_by, tally_after}
use Rattle.sheet.specs.Entry.{entry_at, holds}

module _ (chip : Chip) (rom sheet : List ℕ) where
  -- a moment: the PC lies in the ROM, the open calls, which are those that have not returned, lie in the range of the word about to
  -- run, and the record's open levels are their number
  pub record Moment (m : Machine) (t : Tally) : Type 0 where
    pub inside : m.control.pc < length rom
    pub opened : t.returns + m.control.levels ≡ t.calls
    pub level : holds chip.levels (entry_at sheet m.control.pc) m.control.levels ≡ true

  -- a call that has its own inputs and budget in range is not refused; where the chip lacks cells it may be, with 31 alone; one that
  -- has them out of range is refused with 1
  pub record Allowed (c : HostCall) (m : Machine) : Type 0 where
    pub answered : own_in_range c ≡ true → is_whole chip ≡ true → refusal_at chip rom c m ≡ 0
    pub missing : own_in_range c ≡ true → (refusal_at chip rom c m ≡ 0) ⊎ (refusal_at chip rom c m ≡ 31)
    pub only_one : own_in_range c ≡ false → refusal_at chip rom c m ≡ 1

  -- before every step inside a run, and after its last: however many steps it has completed, the record is the one that a
  -- run of so many steps leaves. A run that begins in HALT completes none and moves the timer: its record is the next moment's
  unfoldable pub Within : Signals → ℕ → Machine → Tally → Type 0
  Within i budget m t =
      (k : ℕ) → k ≤ (run_of chip rom i budget m).count.steps → Moment (run_of chip rom i k m).machine (run_tally chip rom i k m t)

  abbrev pub During : HostCall → Machine → Tally → Type 0
  During (step form i) m t = Unit
  During (run form i budget) m t = Within i budget m t

  -- from a record and the tally so far: the moment before the first call and after every call, and what each call does
  abbrev pub Good : Machine → Tally → List HostCall → Type 0
  Good m t [] = Moment m t
  Good m t (c ∷ cs) = Moment m t × (Allowed c m × (During c m t × Good (left_by chip rom c m) (tally_after chip rom c m t) cs))

  abbrev pub Safe : Type 0
  Safe = (calls : List HostCall) → Good reset_machine no_calls calls
