-- The last phase of a step as the loop takes it: where the timer is as quiet as it says, its pace is the tick, and it stays so.
-- Assumes nothing.
use mathlib.Core.Path.{◌≡◌, ◌∙◌, ap}
use mathlib.Core.List.{List}
use Prim.Native.Nat.{ℕ, ◌≤◌}
use Rattle.peripherals.specs.Pace.{Quiet, paced_of, left_of}
use Rattle.peripherals.specs.declared.Peripherals.{Peripherals}
use Rattle.peripherals.proofs.Paces.{pace_laws}
use Rattle.control.specs.declared.Regs.{Regs}
use Rattle.cpu.specs.Joined.{whole_of}
use Rattle.cpu.specs.Reply.{completed_step}
use Rattle.cpu.specs.Step.{ticked_by}

module _ (set after : Peripherals) (pulse quiet left cycles : ℕ) (q : Quiet set pulse quiet)
    (is : after ≡ paced_of set quiet cycles pulse) (rest : left ≡ left_of set quiet cycles pulse) where
  pub ticked_so : 1 ≤ cycles → (cells stack : List ℕ) (r : Regs)
      → completed_step (whole_of cells stack after r) ≡ completed_step (ticked_by cycles pulse (whole_of cells stack set r))
  ticked_so some cells stack r =
      ap (λ (p : Peripherals). completed_step (whole_of cells stack p r)) (is ∙ (pace_laws set pulse quiet cycles).ticks q some)

  pub still_quiet : Quiet after pulse left
  still_quiet = rw (is, rest) ((pace_laws set pulse quiet cycles).goes_on q)
