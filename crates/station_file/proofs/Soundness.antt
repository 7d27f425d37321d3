-- The writer refuses a station exactly where it is not sound; and what a sound one has at most.
-- Assumes nothing.
use mathlib.Core.Path.{◌≡◌, ◌∙◌, refl, sym, ap, subst}
use mathlib.Core.Bool.{Bool, true, false, cond, ◌||◌, false≢true}
use Prim.Native.Nat.{ℕ, suc, ◌*◌, ◌/◌, ◌%◌, ◌<◌, ◌≤◌}
use native.Mathlib.Nat.{le_refl, mul-zero, mul-le-mul_left, mul-div_cancel_left}
use native.Mathlib.Omega.{arith}
use borrow.Author.Tests.{leb-true, eqb-true, eq-eqb}
use lib.Dec.{eqb, leb, ltb}
use lib.ListN.{length}
use Rattle.laws.proofs.Booleans.{both, or_right}
use Rattle.station_file.specs.Parts.{Sound}
use Rattle.station_file.specs.Station.{Form, Station, record_bytes, entry_byte, input_byte, rom_count, sheet_count}
use Rattle.station_file.specs.Write.{every_at, sheet_length, records, input_count, station_refusal}

pub words_bound : (n : ℕ) → rom_count n ≡ true → n ≤ 1024
words_bound n h = leb-true n 1024 (both (ltb 0 n) (leb n 1024) h).1

-- a length of a sheet that is allowed: none, or an entry for each word
by_either : (P : ℕ → Type 0) (m n : ℕ) (a b : Bool) → eqb n 0 ≡ a → eqb n m ≡ b → (a || b) ≡ true → P 0 → P m → P n
by_either P m n true b p q h x y = subst P (sym (eqb-true n 0 p)) x
by_either P m n false true p q h x y = subst P (sym (eqb-true n m q)) y
by_either P m n false false p q h x y = absurd (false≢true h)

allowed : (P : ℕ → Type 0) (m n : ℕ) → sheet_count m n ≡ true → P 0 → P m → P n
allowed P m n h x y = by_either P m n (eqb n 0) (eqb n m) refl refl h x y

pub entries_bound : (m n : ℕ) → sheet_count m n ≡ true → n ≤ m
entries_bound m n h = allowed (λ (k : ℕ). k ≤ m) m n h (omega arith) (le_refl m)

-- a length in bytes, and the count of its entries
pub record Entries (bytes words n : ℕ) : Type 0 where
  pub count : ℕ
  pub whole : n ≡ bytes * count
  pub counted : sheet_count words count ≡ true

all_counted : (words : ℕ) → sheet_count words words ≡ true
all_counted words = or_right (eqb words 0) (eqb words words) (eq-eqb words words refl)

pub entries_of_lem : (bytes words n : ℕ) → sheet_count (bytes * words) n ≡ true → Entries bytes words n
entries_of_lem bytes words n h =
    allowed (Entries bytes words) (bytes * words) n h (record { count = 0; whole = sym (mul-zero bytes); counted = refl })
    (record { count = words; whole = refl; counted = all_counted words })

pub length_of : (bytes words n : ℕ) → sheet_count words n ≡ true → sheet_count (bytes * words) (bytes * n) ≡ true
length_of bytes words n h =
    allowed (λ (k : ℕ). sheet_count (bytes * words) (bytes * k) ≡ true) words n h (rw (mul-zero bytes) refl) (all_counted (bytes * words))

pub count_of : {bytes n k : ℕ} → 0 < bytes → n ≡ bytes * k → n / bytes ≡ k
count_of {bytes} {n} {k} z e = ap (λ (m : ℕ). m / bytes) e ∙ mul-div_cancel_left k z

passed : (b : Bool) (x n : ℕ) → cond b x (suc n) ≡ 0 → (b ≡ true) × (x ≡ 0)
passed true x n e = (refl, e)
passed false x n e = absurd (omega arith)

module _ (form : Form) (s : Station) where
  pub sound_of : station_refusal form s ≡ 0 → Sound form s
  unfolding station_refusal
  sound_of e =
      let a = passed (rom_count (length s.rom)) _ 21 e in
      let b = passed (sheet_length form (length s.rom) (length s.sheet)) _ 21 a.1 in
      let c = passed (every_at (entry_byte form s.sheet) 0 s.sheet) _ 22 b.1 in
      let d = passed (input_count form s.inputs) _ 21 c.1 in
      let f = passed (every_at input_byte 0 s.inputs) _ 22 d.1 in
      record { words = a.0; sheet = b.0; entries = c.0; inputs = d.0; bytes = f.0 }

  pub unrefused : Sound form s → station_refusal form s ≡ 0
  unfolding station_refusal
  unrefused g = rw (g.words, g.sheet, g.entries, g.inputs, g.bytes) refl

  -- its sizes: words, entries, and whole records of inputs, not too many
  module _ (g : Sound form s) where
    pub few_words : length s.rom ≤ 1024
    few_words = words_bound (length s.rom) g.words

    pub few_entries : length s.sheet ≤ form.entry_bytes * 1024
    few_entries =
        omega (arith, entries_bound (form.entry_bytes * length s.rom) (length s.sheet) g.sheet, mul-le-mul_left form.entry_bytes few_words)

    pub sheet_entries : Entries form.entry_bytes (length s.rom) (length s.sheet)
    sheet_entries = entries_of_lem form.entry_bytes (length s.rom) (length s.sheet) g.sheet

    counts : (eqb (length s.inputs % record_bytes) 0 ≡ true) × (leb (records s) form.most_inputs ≡ true)
    counts = both (eqb (length s.inputs % record_bytes) 0) (leb (records s) form.most_inputs) g.inputs

    pub whole_records : record_bytes * records s ≡ length s.inputs
    whole_records = omega (arith, eqb-true (length s.inputs % record_bytes) 0 counts.0)

    pub few_records : records s ≤ form.most_inputs
    few_records = leb-true (records s) form.most_inputs counts.1
