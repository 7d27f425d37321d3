-- A truth value as a byte: the code's cast is the definition's number, at most 1.
-- Assumes nothing.
use mathlib.Core.Path.{◌≡◌, refl}
use mathlib.Core.Bool.{Bool, true, false}
use Prim.Native.Nat.{◌≤◌}
use mir.Val.{bool_byte}
use lib.Dec.{lit≤}
use Rattle.laws.specs.Bit.{bit}

pub byte_bit : (b : Bool) → bool_byte b ≡ bit b
byte_bit true = refl
byte_bit false = refl

pub byte_below : (b : Bool) → bool_byte b ≤ 1
byte_below true = lit≤ tt
byte_below false = lit≤ tt

pub bit_below : (b : Bool) → bit b ≤ 1
bit_below true = lit≤ tt
bit_below false = lit≤ tt
