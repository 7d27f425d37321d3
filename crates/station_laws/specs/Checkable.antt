-- A sheet that was read is empty, and then `station` does not check it, or has two bytes for each word: then the check has no refusal
-- for it, and `station` prints its verdict. Proved in proofs/Checkable.antt.
-- Assumes nothing.
use Rattle.std.specs.Prelude.{◌≡◌, List, ◌⊎◌, ℕ, length}
use Rattle.memory.specs.Chip.{upd17132}
use Rattle.station_file.specs.Reading.{got}
use Rattle.station_file.specs.Forms.{load_of}
use Rattle.station_file.specs.Station.{Station}
use Rattle.verifier.specs.Verdict.{refused, verify_of}

abbrev pub Checkable : Type 0
Checkable = (xs : List ℕ) (s : Station) (rest : List ℕ) → load_of xs ≡ got s rest
    → (length s.sheet ≡ 0) ⊎ ((n : ℕ) → verify_of upd17132 s.rom s.sheet ≡ refused n → ⊥)
