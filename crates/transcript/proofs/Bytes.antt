-- The input records of a list of bytes.
-- Assumes nothing.
use mathlib.Core.Path.{◌≡◌, ◌∙◌, refl, ap}
use mathlib.Core.List.{List, [], ◌∷◌}
use Prim.Native.Nat.{ℕ, zero, suc, ◌+◌, ◌*◌, ◌<◌, ◌≤◌}
use native.Mathlib.Omega.{arith}
use lib.ListN.{get_or, take, drop}
use lib.Seq.{drop-drop}
use Rattle.std.proofs.lemmas.List.{drop-take, get_or-take}
use Rattle.std.specs.Simd.{first_chunks}
use Rattle.station_file.specs.Station.{record_bytes}
use Rattle.transcript.specs.Printing.{input_at}

-- the record after so many
pub next_bytes : (k : ℕ) (xs : List ℕ) → input_at k (drop record_bytes xs) ≡ input_at (suc k) xs
next_bytes k xs =
    let e : 11 * suc k ≡ 11 + 11 * k = omega arith in
    rw (e, drop-drop (11 * k) 11 xs)

take_take : (m n : ℕ) (xs : List ℕ) → m ≤ n → take m (take n xs) ≡ take m xs
take_take zero n xs h = refl
take_take (suc m) zero xs h = absurd (omega arith)
take_take (suc m) (suc n) [] h = refl
take_take (suc m) (suc n) (x ∷ xs) h = ap (λ (l : List ℕ). x ∷ l) (take_take m n xs (omega arith))

first_input : (xs : List ℕ) → input_at 0 (take 11 xs) ≡ input_at 0 xs
first_input xs =
    let directions : take 5 (drop 5 (take 11 xs)) ≡ take 5 (drop 5 xs)
    = ap (take 5) (drop-take 5 6 xs) ∙ take_take 5 6 (drop 5 xs) (omega arith) in
    rw (take_take 5 11 xs (omega arith), directions, get_or-take 11 xs 10 0 (omega arith))

pub chunk_input : (k n : ℕ) (xs : List ℕ) → k < n → input_at 0 (get_or (first_chunks record_bytes n xs) k []) ≡ input_at k xs
chunk_input k zero xs h = absurd (omega arith)
chunk_input zero (suc n) xs h = first_input xs
chunk_input (suc k) (suc n) xs h = chunk_input k n (drop record_bytes xs) (omega arith) ∙ next_bytes k xs
