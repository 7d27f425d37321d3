-- How runs are made of steps, and of shorter runs: document 01, "A run takes one input record and a budget". Proved in
-- proofs/Runs.antt.
-- Assumes nothing.
use Rattle.std.specs.Prelude.{◌≡◌, true, false, List, ◌⊎◌, ℕ, ◌+◌, ◌*◌, ◌-◌, ◌≤◌, ◌<◌}
use Rattle.memory.specs.Chip.{Chip}
use Rattle.machine.specs.Signals.{Signals}
use Rattle.machine.specs.declared.Machine.{Machine}
use Rattle.cpu.specs.Cost.{none, plus}
use Rattle.cpu.specs.Reply.{refused_step}
use Rattle.cpu.specs.Run.{Run, ended, run_of, step_run}
use Rattle.cpu.specs.Step.{is_standing, waits, stood_by, step_of}
use Rattle.cpu.specs.declared.Count.{Count}

-- a run after what was counted before it
abbrev pub after : Count → Run → Run
after c r = record { count = plus c r.count; refusal = r.refusal; machine = r.machine }

module _ (chip : Chip) (rom : List ℕ) (signals : Signals) where
  abbrev pub run : ℕ → Machine → Run
  run n m = run_of chip rom signals n m

  pub record RunLaws (m : Machine) : Type 0 where
    -- document 02, E3, "MOVT two, every other step one": at least as many cycles as steps, and at most twice as many
    pub cycles : (n : ℕ) → ((run n m).count.steps ≤ (run n m).count.cycles) × ((run n m).count.cycles ≤ 2 * (run n m).count.steps)
    -- a run of 1 is a step, its count included
    pub single : run 1 m ≡ step_run chip rom signals m
    -- "It ends .. at the budget": the steps are at most the budget
    pub bounded : (n : ℕ) → (run n m).count.steps ≤ n
    -- "It reports the number of steps completed": for k up to that number the run of k steps completes them all, refused by
    -- nothing
    pub prefix : (n k : ℕ) → ((run n m).refusal ≡ 1 → ⊥) → k ≤ (run n m).count.steps
        → ((run k m).count.steps ≡ k) × ((run k m).refusal ≡ 0)
    -- short of that number the whole run is this one and a run of the steps that are left; a run that ends standing would at
    -- release 1 go on
    pub rest : (n k : ℕ) → k < (run n m).count.steps → run n m ≡ after (run k m).count (run (n - k) (run k m).machine)
    -- "a refused run keeps the state of its completed steps": it is the run of its steps, where the number is not 1 and the run
    -- does not begin standing at release 0
    pub whole : (n : ℕ) → ((run n m).refusal ≡ 1 → ⊥) → waits chip rom signals m ≡ false
        → run (run n m).count.steps m ≡ ended (run n m).count 0 (run n m).machine
    -- document 02, E4: one standing step "ends a run that begins so", and counts for nothing; at budget 0 there is none
    pub standing : (n : ℕ) → 0 < n → ((run n m).refusal ≡ 1 → ⊥) → waits chip rom signals m ≡ true
        → run n m ≡ ended none 0 (stood_by signals.pulse m)
    -- "It ends at a refusal": which the next step on its record meets
    pub next : (n : ℕ) → ((run n m).refusal ≡ 1 → ⊥) → ((run n m).refusal ≡ 0 → ⊥)
        → step_of chip rom signals (run n m).machine ≡ refused_step (run n m).refusal (run n m).machine
    -- a run of n + k is a run of n followed by a run of k, where the first completes n steps, and n is 0 or the machine does
    -- not stand after it, so that it ended at its budget; in HALT the second run would move the timer
    pub joined : (n k : ℕ) → n + k ≤ 65535 → (run n m).count.steps ≡ n → (n ≡ 0) ⊎ (is_standing (run n m).machine ≡ false)
        → run (n + k) m ≡ after (run n m).count (run k (run n m).machine)
