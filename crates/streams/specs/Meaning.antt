-- What the answers of `read` and `write` mean: POSIX, "Return value" of each.
-- Assumes nothing.
use Rattle.std.specs.Prelude.{◌≡◌, cond, List, Option, ℕ, ◌<◌, length, take, ◌+◌, ◌-◌, ◌≤◌, eqb, ltb, Result, Ok, Err}
use Rattle.std.specs.Io.KnownBytes.{Consumes, IsAtEnd}
use Rattle.std.specs.declared.io.Error.{Error}
use Rattle.streams.specs.declared.Meaning.{Meaning}
use Rattle.streams.specs.declared.Meaning.TheVariants as meaning

-- what a call that is handed n bytes may answer: that it failed, or how many bytes it moved, at most n
abbrev pub Moved : {E : Type 0} → ℕ → Result ℕ E → Type 0
Moved n (Ok k) = k ≤ n
Moved n (Err e) = Unit {0}

-- the answer to a call for the bytes from a place on of so many: that it failed, or how many it moved
abbrev pub meaning_of : Result ℕ Error → ℕ → ℕ → Meaning
meaning_of (Err e) at room = meaning.Failed at e
meaning_of (Ok n) at room =
    cond (eqb n 0)
    (meaning.End at)
    (cond (ltb n (room - at)) (meaning.Further (at + n)) (meaning.Full room))

-- the place up to which the bytes are then moved
abbrev pub place_of : Meaning → ℕ
place_of (meaning.Further n) = n
place_of (meaning.Full n) = n
place_of (meaning.End n) = n
place_of (meaning.Failed n e) = n

-- what some answer of the system means, of which the kit says only how far it can reach
pub record Means (at room : ℕ) (r : Meaning) : Type 0 where
  pub answer : Result ℕ Error
  pub moved : Moved (room - at) answer
  pub means : r ≡ meaning_of answer at room

-- an input that was read lies in the buffer
abbrev pub InRoom : {E : Type 0} → Result ℕ E → ℕ → Type 0
InRoom (Ok n) room = n ≤ room
InRoom (Err e) room = Unit {0}

-- of an input whose bytes are known: none is left where the answer is its end
abbrev pub HasEnded : Option (List ℕ) → Meaning → Type 0
HasEnded left (meaning.End n) = IsAtEnd left
HasEnded left (meaning.Further n) = Unit {0}
HasEnded left (meaning.Full n) = Unit {0}
HasEnded left (meaning.Failed n e) = Unit {0}

-- of an input whose bytes are known: those that were read stand at the front of the buffer, and none is left if there is room for more
abbrev pub IsRead : {E : Type 0} → Option (List ℕ) → Option (List ℕ) → List ℕ → Result ℕ E → Type 0
IsRead old new buffer (Ok n) = Consumes old new (take n buffer) × (n < length buffer → IsAtEnd new)
IsRead old new buffer (Err e) = Unit {0}
