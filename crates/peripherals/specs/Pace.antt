-- The timer while no pulse can come: a run looks at the clock only where one can. What it then does is the tick (PaceLaws), proved in
-- proofs/Paces.antt.
-- Assumes nothing.
use Rattle.std.specs.Prelude.{◌≡◌, ℕ, ◌+◌, ◌-◌, ◌%◌, ◌≤◌, Bool, false, cond, ◌&&◌, List, ◌==◌, nat_le}
use Rattle.peripherals.specs.Registers.{is_on}
use Rattle.peripherals.specs.Table.{TM, TMEN}
use Rattle.peripherals.specs.Timer.{clock_of, period_of, comes_of, tick_of}
use Rattle.peripherals.specs.declared.Peripherals.{Peripherals}

-- whether a pulse comes in so many cycles and counts
abbrev pub counts : Peripherals → ℕ → ℕ → Bool
counts p cycles pulse = is_on p.registers TM TMEN && comes_of (clock_of p.registers) p.divider cycles pulse

-- none does in so many
abbrev pub Quiet : Peripherals → ℕ → ℕ → Type 0
Quiet p pulse quiet = (n : ℕ) → n ≤ quiet → 1 ≤ n → counts p n pulse ≡ false

-- how many cycles are quiet from a divider on
unfoldable pub rest_in : ℕ → ℕ → ℕ → ℕ
rest_in clock divider pulse =
    cond (clock == 3) (cond (pulse == 0) 127 0) (period_of clock - 1 - divider % period_of clock)

unfoldable pub rest_of : List ℕ → ℕ → ℕ → ℕ
rest_of registers divider pulse = cond (is_on registers TM TMEN) (rest_in (clock_of registers) divider pulse) 127

-- the divider moved, and nothing else
abbrev pub turned_of : Peripherals → ℕ → Peripherals
turned_of p cycles =
    record { registers = p.registers; modulo = p.modulo; counter = p.counter; divider = (p.divider + cycles) % 128 }

-- the peripherals after so many cycles, and how many are quiet then
unfoldable pub paced_of : Peripherals → ℕ → ℕ → ℕ → Peripherals
paced_of p quiet cycles pulse = cond (nat_le cycles quiet) (turned_of p cycles) (tick_of p cycles pulse)

unfoldable pub left_of : Peripherals → ℕ → ℕ → ℕ → ℕ
left_of p quiet cycles pulse = cond (nat_le cycles quiet) (quiet - cycles) (rest_of p.registers ((p.divider + cycles) % 128) pulse)

pub record PaceLaws (p : Peripherals) (pulse quiet cycles : ℕ) : Type 0 where
  -- nothing is known of no cycle
  pub none : Quiet p pulse 0
  -- where what is said to be quiet is, the tick
  pub ticks : Quiet p pulse quiet → 1 ≤ cycles → paced_of p quiet cycles pulse ≡ tick_of p cycles pulse
  -- and what is said to be quiet then is
  pub goes_on : Quiet p pulse quiet → Quiet (paced_of p quiet cycles pulse) pulse (left_of p quiet cycles pulse)
