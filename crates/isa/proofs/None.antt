-- A test for the words that are no instruction.
-- Assumes nothing.
use mathlib.Core.Path.{◌≡◌, ap, sym}
use mathlib.Core.Bool.{Bool, false}
use lib.Dec.{T, eqb, eqb→eq}
use Rattle.isa.specs.Answers.{Decoding, is, refused}
use Rattle.isa.specs.Decode.{none}

abbrev pub is_none : Decoding → Bool
is_none (is i) = false
is_none (refused n) = eqb n 3

pub is_none_lem : (d : Decoding) → T (is_none d) → none ≡ d
is_none_lem (is i) t = absurd t
is_none_lem (refused n) t = ap refused (sym (eqb→eq n 3 t))
