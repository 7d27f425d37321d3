-- A file longer than every good one (`Sizes`), and so refused, has the refusal of its front, which is one byte longer than the longest
-- good file. So
-- `station`, which reads no more of its input, prints the text of the whole. Proved in proofs/Longer.antt.
-- Assumes nothing.
use Rattle.std.specs.Prelude.{◌≡◌, List, ℕ, ◌+◌, ◌≤◌, length, take}
use Rattle.station_file.specs.Forms.{load_of}
use Rattle.station_file.specs.Station.{longest}

abbrev pub Longer : Type 0
Longer = (xs : List ℕ) → longest + 1 ≤ length xs → load_of xs ≡ load_of (take (longest + 1) xs)
