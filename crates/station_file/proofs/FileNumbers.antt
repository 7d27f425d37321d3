-- The number of a file refusal loses nothing, and is 20 or more.
-- Assumes nothing.
use mathlib.Core.Path.{◌≡◌, refl}
use mathlib.Core.List.{[], ◌∷◌}
use mathlib.Mathlib.Logic.Function.Defs.{LeftInverse-Injective}
use Prim.Native.Nat.{ℕ, ◌-◌, ◌≤◌}
use lib.Dec.{lit≤}
use lib.ListN.{get_or}
use Rattle.station_file.specs.Answers.{file_number}
use Rattle.station_file.specs.declared.FileRefusal.{FileRefusal}
use Rattle.station_file.specs.declared.FileRefusal.TheVariants.{Form, Early, Count, Entry, After, Room}

-- the refusal with a number
pub numbered : ℕ → FileRefusal
numbered n = get_or (Form ∷ Early ∷ Count ∷ Entry ∷ After ∷ Room ∷ []) (n - 20) Form

pub numbered_again : (f : FileRefusal) → numbered (file_number f) ≡ f
unfolding numbered
numbered_again Form = refl
numbered_again Early = refl
numbered_again Count = refl
numbered_again Entry = refl
numbered_again After = refl
numbered_again Room = refl

pub numbers_apart : (f g : FileRefusal) → file_number f ≡ file_number g → f ≡ g
numbers_apart = LeftInverse-Injective numbered file_number numbered_again

pub file_number_lem : (f : FileRefusal) → 20 ≤ file_number f
file_number_lem Form = lit≤ tt
file_number_lem Early = lit≤ tt
file_number_lem Count = lit≤ tt
file_number_lem Entry = lit≤ tt
file_number_lem After = lit≤ tt
file_number_lem Room = lit≤ tt
