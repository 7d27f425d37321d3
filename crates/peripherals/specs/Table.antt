-- The control registers for ports and timer: source document 000, 12.7 and 13.1.2, as document 02, E4, takes them. Each register
-- and each flag bit has its name here, once.
-- Assumes nothing.
use Rattle.std.specs.Prelude.{ℕ, List, [], ◌∷◌, map, slice_index}

pub record Register : Type 0 where
  -- the address in the register file
  pub address : ℕ
  -- the bits that stay; the others are always 0
  pub stays : ℕ
  pub reset : ℕ

abbrev line : ℕ → ℕ → ℕ → Register
line a s r = record { address = a; stays = s; reset = r }

-- figures 13-2, 13-7, 12-2 and 12-3; "TMRES reads 0", so it does not stay
unfoldable pub control_registers : List Register
control_registers =
    line 0x11 0b1011 0b1000
    ∷ line 0x12 0b0001 0b0000
    ∷ line 0x24 0b0001 0b0000
    ∷ line 0x32 0b0011 0b0000
    ∷ line 0x33 0b1111 0b0000
    ∷ line 0x34 0b1111 0b0000
    ∷ line 0x35 0b1111 0b0000
    ∷ []

-- the peripherals that GET and PUT go to: the counter is read and the modulo register is written (source document 000, table 10-1)
abbrev pub TMC : ℕ
TMC = 0x02

abbrev pub TMM : ℕ
TMM = 0x03

-- the bits that stay at a place of the table; past its end none
abbrev pub stays_at : ℕ → ℕ
stays_at k = slice_index (map (λ (r : Register). r.stays) control_registers) k

-- the places: 11H, the timer's mode
abbrev pub TM : ℕ
TM = 0

-- 12H, the timer's output
abbrev pub TMO : ℕ
TMO = 1

-- 24H, port 0B as a group
abbrev pub P0BGIO : ℕ
P0BGIO = 2

-- 32H to 35H, the other ports bit by bit
abbrev pub P0EBIO : ℕ
P0EBIO = 3

abbrev pub P0DBIO : ℕ
P0DBIO = 4

abbrev pub P0CBIO : ℕ
P0CBIO = 5

abbrev pub P0ABIO : ℕ
P0ABIO = 6

-- the flags of 11H; its two low bits are the clock, TMCK
abbrev pub TMEN : ℕ
TMEN = 0b1000

abbrev pub TMRES : ℕ
TMRES = 0b0100

-- the flag of 12H
abbrev pub TMOSEL : ℕ
TMOSEL = 0b0001

-- the one bit of 24H
abbrev pub GROUP : ℕ
GROUP = 0b0001
