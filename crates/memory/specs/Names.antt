-- The names of document 01, "The machine's record": each register address and each flag bit, once.
-- Assumes nothing.
use Rattle.std.specs.Prelude.{ℕ}

-- the data buffer, highest nibble first
abbrev pub DBF3 : ℕ
DBF3 = 0x0C

abbrev pub DBF2 : ℕ
DBF2 = 0x0D

abbrev pub DBF1 : ℕ
DBF1 = 0x0E

abbrev pub DBF0 : ℕ
DBF0 = 0x0F

-- the ports
abbrev pub P0E : ℕ
P0E = 0x6F

abbrev pub P0A : ℕ
P0A = 0x70

abbrev pub P0B : ℕ
P0B = 0x71

abbrev pub P0C : ℕ
P0C = 0x72

abbrev pub P0D : ℕ
P0D = 0x73

-- the address register, highest nibble first
abbrev pub AR3 : ℕ
AR3 = 0x74

abbrev pub AR2 : ℕ
AR2 = 0x75

abbrev pub AR1 : ℕ
AR1 = 0x76

abbrev pub AR0 : ℕ
AR0 = 0x77

-- the window register and the bank register
abbrev pub WR : ℕ
WR = 0x78

abbrev pub BANK : ℕ
BANK = 0x79

-- the index register; its first two are the memory pointer too, MPH and MPL
abbrev pub IXH : ℕ
IXH = 0x7A

abbrev pub IXM : ℕ
IXM = 0x7B

abbrev pub IXL : ℕ
IXL = 0x7C

-- the register pointer
abbrev pub RPH : ℕ
RPH = 0x7D

abbrev pub RPL : ℕ
RPL = 0x7E

-- the four bits of the program status word that have a cell of their own; the fifth, BCD, is a bit of RPL
abbrev pub PSW : ℕ
PSW = 0x7F

-- the flags in PSW
abbrev pub CMP : ℕ
CMP = 0b1000

abbrev pub CY : ℕ
CY = 0b0100

abbrev pub Z : ℕ
Z = 0b0010

abbrev pub IXE : ℕ
IXE = 0b0001

-- the decimal flag, a bit of RPL
abbrev pub BCD : ℕ
BCD = 0b0001

-- memory pointer enable, a bit of IXH
abbrev pub MPE : ℕ
MPE = 0b1000
