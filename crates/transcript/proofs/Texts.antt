-- The sheet line and the whole text.
-- Assumes nothing.
use mathlib.Core.Path.{◌≡◌, refl, ap}
use mathlib.Core.List.{List, ◌++◌}
use Prim.Native.Nat.{ℕ, ◌/◌, ◌≤◌}
use native.Mathlib.Omega.{arith}
use lib.ListN.{length}
use borrow.Author.Tests.{eq-eqb, ne_eqb}
use Rattle.memory.specs.Chip.{upd17132}
use Rattle.verifier.specs.Verdict as verdict
use Rattle.station_file.specs.Station.{Station, record_bytes}
use Rattle.transcript.specs.declared.Progress as code
use Rattle.transcript.specs.declared.Sink.{Sink}
use Rattle.transcript.specs.Printing.{Wrote, RecordedTo, refusal_in}
use Rattle.transcript.specs.Text.{newline, sheet_text, none_text}
use Rattle.transcript.specs.Transcript.{Progress, verdict_text, sheet_line, end_line, station_text, transcript_of}
use Rattle.transcript.specs.Print.{print_of}
use Rattle.transcript.specs.Put.{put_of}
use Rattle.transcript.proofs.Puts.{bounded, joined, reworded}

module _ (s : Station) {x y z : Sink} where
  pub no_sheet : length s.sheet ≡ 0 → Wrote 6 sheet_text x y → Wrote 5 (none_text ++ newline) y z → Wrote 19 (sheet_line s) x z
  unfolding sheet_line
  no_sheet e f g = rw (eq-eqb (length s.sheet) 0 e) (bounded 19 (omega arith) (joined f g))

  pub checked : (length s.sheet ≡ 0 → ⊥) → (v : verdict.CheckAnswer) → v ≡ verdict.verify_of upd17132 s.rom s.sheet
      → Wrote 6 sheet_text x y → {j : ℕ} → j ≤ 13 → Wrote j (verdict_text v ++ newline) y z → Wrote 19 (sheet_line s) x z
  unfolding sheet_line
  checked n v e f h g = rw (ne_eqb (length s.sheet) 0 n, ← e) (bounded 19 (omega arith) (joined f g))

module _ (s : Station) {w x y z : Sink} (p : code.Progress) where
  pub whole : length s.inputs ≤ 45045 → Wrote 19 (sheet_line s) w x
      → RecordedTo s.rom s.inputs (length s.inputs / record_bytes) x y p
      → Wrote 30 (end_line p.count (refusal_in p.refusal)) y z
      → Wrote 100000 (station_text s) w z
  unfolding station_text
  whole h f g e =
      bounded 100000 (omega arith)
      (joined (joined f g.wrote) (reworded (ap (λ (q : Progress). end_line q.count q.refusal) g.same) e))

-- the text of a file in a lent buffer is any text there
pub print_same : (file out : List ℕ) → put_of (transcript_of file) out ≡ print_of file out
unfolding print_of put_of
print_same file out = refl
