-- Each form keeps a station that the writer takes: as form 1 has it, and as it is in memory.
-- Assumes nothing.
use mathlib.Core.Path.{◌≡◌, ◌∙◌, refl, sym, ap}
use mathlib.Core.Bool.{Bool, true, false}
use mathlib.Core.List.{List, [], ◌∷◌}
use Prim.Native.Nat.{ℕ, zero, suc, ◌+◌, ◌*◌, ◌/◌, ◌%◌, ◌<◌}
use native.Mathlib.Nat.{add-zero, zero-add, mod-one}
use native.Mathlib.Omega.{arith}
use borrow.Author.Tests.{ne_eqb}
use lib.Dec.{eqb}
use lib.ListN.{length, get_or}
use Rattle.laws.proofs.Booleans.{both}
use Rattle.sheet.specs.Entry.{single, proper}
use Rattle.station_file.specs.Forms.{doubled, lowest_of, in_memory, in_file}
use Rattle.station_file.specs.Parts.{Sound}
use Rattle.station_file.specs.Station.{Form, form1, form2, Station, most_level, entry_byte}
use Rattle.station_file.specs.Write.{every_at}
use Rattle.station_file.proofs.EntryBytes.{lower}
use Rattle.station_file.proofs.Packing.{length_doubled}
use Rattle.station_file.proofs.Packing.{length_lowest, slice_index_lowest, slice_index_doubled}
use Rattle.station_file.proofs.Soundness.{length_of, sheet_entries}

-- a test at every index, and one by one
module _ (ok : ℕ → ℕ → Bool) where
  everywhere : (k : ℕ) (xs : List ℕ) → every_at ok k xs ≡ true → (i : ℕ) → i < length xs → ok (k + i) (get_or xs i 0) ≡ true
  everywhere k [] e i h = absurd (omega arith)
  everywhere k (x ∷ xs) e zero h = rw (add-zero k) (both (ok k x) (every_at ok (suc k) xs) e).0
  everywhere k (x ∷ xs) e (suc i) h =
      let q : k + suc i ≡ suc k + i = omega arith in
      rw q (everywhere (suc k) xs (both (ok k x) (every_at ok (suc k) xs) e).1 i (omega arith))

  from_each : (k : ℕ) (xs : List ℕ) → ((i : ℕ) → i < length xs → ok (k + i) (get_or xs i 0) ≡ true) → every_at ok k xs ≡ true
  from_each k [] h = refl
  from_each k (x ∷ xs) h =
      rw (rw (add-zero k) at (h 0 (omega arith)))
      (from_each (suc k) xs (λ i l. let q : suc k + i ≡ k + suc i = omega arith in rw q (h (suc i) (omega arith))))

-- the first byte of an entry, whatever stands before it
first_byte : (form : Form) (xs : List ℕ) (k b : ℕ) → k % form.entry_bytes ≡ 0 → entry_byte form xs k b ≡ proper most_level (single b)
first_byte form xs k b e = ap (proper most_level) (lower form (get_or (0 ∷ xs) k 0) k b e)

module _ (p : List ℕ) where
  -- a level, read as a range
  each_level : every_at (entry_byte form1 p) 0 p ≡ true → (i : ℕ) → i < length p → proper most_level (single (get_or p i 0)) ≡ true
  each_level h i l =
      sym (first_byte form1 p (0 + i) (get_or p i 0) (mod-one (0 + i))) ∙ everywhere (entry_byte form1 p) 0 p h i l

  by_half : (k : ℕ) → k < length (doubled p) → every_at (entry_byte form1 p) 0 p ≡ true → (r : ℕ) → k % 2 ≡ r
      → entry_byte form2 (doubled p) k (get_or (doubled p) k 0) ≡ true
  by_half k l h zero e =
      let i : ℕ = k / 2 in
      let q : k ≡ 2 * i = omega arith in
      first_byte form2 (doubled p) k (get_or (doubled p) k 0) e
      ∙ ap (λ (b : ℕ). proper most_level (single b)) (ap (λ (j : ℕ). get_or (doubled p) j 0) q ∙ (slice_index_doubled p i).0)
      ∙ each_level h i (omega (arith, length_doubled p))
  by_half k l h (suc r) e =
      let i : ℕ = k / 2 in
      let q : k ≡ suc (2 * i) = omega arith in
      let o : eqb (suc (2 * i) % 2) 0 ≡ false = ne_eqb (suc (2 * i) % 2) 0 (λ z. omega arith) in
      rw (q, o, (slice_index_doubled p i).0, (slice_index_doubled p i).1) (each_level h i (omega (arith, length_doubled p)))

  doubled_good : every_at (entry_byte form1 p) 0 p ≡ true → every_at (entry_byte form2 (doubled p)) 0 (doubled p) ≡ true
  doubled_good h =
      from_each (entry_byte form2 (doubled p)) 0 (doubled p)
      (λ k l. rw (zero-add k) (by_half k l h (k % 2) refl))

lowest_good : (s : List ℕ) → every_at (entry_byte form2 s) 0 s ≡ true → every_at (entry_byte form1 (lowest_of s)) 0 (lowest_of s) ≡ true
lowest_good s h =
    from_each (entry_byte form1 (lowest_of s)) 0 (lowest_of s)
    (λ i l.
    let n : i < length s / 2 = omega (arith, length_lowest s) in
    let even : (0 + 2 * i) % 2 ≡ 0 = omega arith in
    first_byte form1 (lowest_of s) (0 + i) (get_or (lowest_of s) i 0) (mod-one (0 + i))
    ∙ ap (λ (b : ℕ). proper most_level (single b)) (slice_index_lowest s i n)
    ∙ sym (first_byte form2 s (0 + 2 * i) (get_or s (2 * i) 0) even)
    ∙ everywhere (entry_byte form2 s) 0 s h (2 * i) (omega arith))

-- a station in the other form
module _ (s : Station) where
  pub memory_sound : Sound form1 s → Sound form2 (in_memory form1 s)
  unfolding in_memory
  memory_sound g =
      let e = sheet_entries form1 s g in
      let n : length (doubled s.sheet) ≡ 2 * e.count = omega (arith, length_doubled s.sheet, e.whole) in
      record {
        words = g.words;
        sheet = rw n (length_of 2 (length s.rom) e.count e.counted);
        entries = doubled_good s.sheet g.entries;
        inputs = g.inputs;
        bytes = g.bytes;
      }

  pub file_sound : Sound form2 s → Sound form1 (in_file form1 s)
  unfolding in_file
  file_sound g =
      let e = sheet_entries form2 s g in
      let n : length (lowest_of s.sheet) ≡ 1 * e.count = omega (arith, length_lowest s.sheet, e.whole) in
      record {
        words = g.words;
        sheet = rw n (length_of 1 (length s.rom) e.count e.counted);
        entries = lowest_good s.sheet g.entries;
        inputs = g.inputs;
        bytes = g.bytes;
      }
