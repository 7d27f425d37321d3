-- What is told of a request.
-- Assumes nothing.
use mathlib.Core.Path.{◌≡◌, ◌∙◌, ap}
use mathlib.Core.List.{List, [], ◌∷◌}
use mir.Syntax.{w32}
use Prim.Native.Nat.{ℕ, ◌/◌, ◌<◌, ◌≤◌}
use native.Mathlib.Omega.{arith}
use lib.ListN.{length, get_or, take, drop}
use borrow.Author.Tests.{lt-ltb, le-ltb}
use Rattle.std.specs.Int.{from_be_bytes}
use Rattle.std.proofs.lemmas.List.{get_or-take}
use Rattle.station_file.specs.Forms.{load_of}
use Rattle.station_file.specs.Reading.{Reading}
use Rattle.station_file.specs.Station.{Station, record_bytes}
use Rattle.transcript.specs.Why.{answer_text, last_writer, refusal_line, explanation, count_in, told_of, why_of}

-- of a station that was read
module _ (r : Reading Station) (s : Station) (told : (good : Station → List ℕ) → good s ≡ told_of good r) (cell count : ℕ) where
  pub cell_refused : 127 < cell → refusal_line 32 ≡ told_of (explanation cell count) r
  cell_refused h = rw (← told (explanation cell count), lt-ltb 127 cell h)

  module _ (h : cell ≤ 127) where
    pub count_refused : length s.inputs / record_bytes < count → refusal_line 33 ≡ told_of (explanation cell count) r
    count_refused k = rw (← told (explanation cell count), le-ltb 127 cell h, lt-ltb _ count k)

    pub answered : count ≤ length s.inputs / record_bytes
        → answer_text s.rom s.inputs cell (last_writer s.rom s.inputs cell count) ≡ told_of (explanation cell count) r
    answered k = rw (← told (explanation cell count), le-ltb 127 cell h, le-ltb _ count k)

module _ (request : List ℕ) where
  pub early : length request < 5 → refusal_line 21 ≡ why_of request
  unfolding why_of
  early h = rw (lt-ltb (length request) 5 h)

  module _ {head file : List ℕ} (h : 5 ≤ length request) (e : head ≡ take 5 request) (f : file ≡ drop 5 request) where
    read_at : (k : ℕ) → k < 5 → get_or head k 0 ≡ get_or request k 0
    read_at k l = ap (λ (xs : List ℕ). get_or xs k 0) e ∙ get_or-take 5 request k 0 l

    pub asked_cell : get_or head 0 0 ≡ get_or request 0 0
    asked_cell = read_at 0 (omega arith)

    pub asked_count : from_be_bytes w32 (get_or head 1 0 ∷ get_or head 2 0 ∷ get_or head 3 0 ∷ get_or head 4 0 ∷ []) ≡ count_in request
    asked_count = rw (read_at 1 (omega arith), read_at 2 (omega arith), read_at 3 (omega arith), read_at 4 (omega arith)) (omega arith)

    pub asked : told_of (explanation (get_or head 0 0) (from_be_bytes w32 (get_or head 1 0 ∷ get_or head 2 0 ∷ get_or head 3 0 ∷ get_or head 4 0 ∷ []))) (load_of file) ≡ why_of request
    unfolding why_of
    asked = rw (asked_cell, asked_count, f, le-ltb (length request) 5 h)
