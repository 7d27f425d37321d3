-- What is written is read back: fields, a section, and the whole file.
-- Assumes nothing.
use mathlib.Core.Path.{◌≡◌, ◌∙◌, ap, refl, sym}
use mathlib.Core.Bool.{Bool, true}
use mathlib.Core.List.{List, [], ◌∷◌, ◌++◌, append_assoc, append-nil}
use Prim.Native.Nat.{ℕ, suc, ◌*◌, ◌/◌, ◌^◌, ◌<◌}
use native.Mathlib.Omega.{arith}
use borrow.Author.Tests.{ltb-true, eq-eqb, le-leb}
use lib.Dec.{ltb, leb}
use lib.ListN.{length}
use Rattle.laws.proofs.Booleans.{both}
use Rattle.station_file.specs.Parts.{Sound}
use Rattle.station_file.specs.Reading.{got, fields}
use Rattle.station_file.specs.Station.{Form, Station, record_bytes, rom_count, sheet_count, entry_byte, input_byte, rom_section, sheet_section, input_section, parse_of}
use Rattle.station_file.specs.Write.{bytes_of, word_bytes, every_at, below, records, render_of}
use Rattle.station_file.proofs.Counted.{Codec, words, bytes, section}
use Rattle.station_file.proofs.Digits.{number_back}
use Rattle.station_file.proofs.Local.{entry_bytes_of, entries_same, sheet_section_lem}
use Rattle.station_file.proofs.Soundness.{few_words, sheet_entries, entries_bound, count_of, whole_records, few_records}
use Rattle.station_laws.specs.RoundTrip.{Fits}

-- a value that passes a test is read back
abbrev Restored : Codec → (ℕ → ℕ → Bool) → Type 0
Restored c ok = (k v : ℕ) (rest : List ℕ) → ok k v ≡ true → c.field k (c.one v ++ rest) ≡ got v rest

abbrev is_word : ℕ → ℕ → Bool
is_word k v = ltb v (256 ^ 2)

words_restored : Restored words is_word
words_restored k v rest t = number_back 2 v rest (ltb-true v (256 ^ 2) t)

bytes_restored : (ok : ℕ → ℕ → Bool) → Restored (bytes ok) ok
bytes_restored ok k v rest t = rw t refl

module _ (c : Codec) (ok : ℕ → ℕ → Bool) (law : Restored c ok) where
  fields_back : (k : ℕ) (vs rest : List ℕ) → every_at ok k vs ≡ true → fields c.field k (length vs) (c.many vs ++ rest) ≡ got vs rest
  fields_back k [] rest e = ap (λ (xs : List ℕ). got [] (xs ++ rest)) c.none
  fields_back k (v ∷ vs) rest e =
      let p = both (ok k v) (every_at ok (suc k) vs) e in
      rw (c.more v vs, append_assoc (c.one v) (c.many vs) rest, law k v (c.many vs ++ rest) p.0, fields_back (suc k) vs rest p.1) refl

  section_back : (width : ℕ) (test : ℕ → Bool) (size : ℕ → ℕ) (n : ℕ) (vs rest : List ℕ) → n < 256 ^ width → test n ≡ true → length vs ≡ size n
      → every_at ok 0 vs ≡ true → section c width test size (bytes_of width n ++ (c.many vs ++ rest)) ≡ got vs rest
  section_back width test size n vs rest f t l g = rw (number_back width n (c.many vs ++ rest) f, t, ← l, fields_back 0 vs rest g) refl

module _ (form : Form) (fits : Fits form) (s : Station) (g : Sound form s) where
  rom_back : (rest : List ℕ) → below (256 ^ 2) s.rom → rom_section (bytes_of 2 (length s.rom) ++ (word_bytes s.rom ++ rest)) ≡ got s.rom rest
  unfolding rom_section
  rom_back rest w =
      section_back words is_word words_restored 2 rom_count (λ (n : ℕ). n) (length s.rom) s.rom rest (omega (arith, few_words form s g)) g.words refl w

  -- the entries are counted, and their test looks at no byte after them
  sheet_back : (rest : List ℕ) → sheet_section form (length s.rom) (bytes_of 2 (length s.sheet / form.entry_bytes) ++ (s.sheet ++ rest)) ≡ got s.sheet rest
  sheet_back rest =
      let e = sheet_entries form s g in
      let n : length s.sheet / form.entry_bytes ≡ e.count = count_of fits.entry e.whole in
      let good : every_at (entry_byte form (s.sheet ++ rest)) 0 s.sheet ≡ true = sym (entries_same form s.sheet rest) ∙ g.entries in
      rw n
      (sheet_section_lem form (length s.rom) (bytes_of 2 e.count ++ (s.sheet ++ rest))
      ∙ section_back (bytes (entry_byte form (s.sheet ++ rest))) (entry_byte form (s.sheet ++ rest)) (bytes_restored (entry_byte form (s.sheet ++ rest))) 2
      (sheet_count (length s.rom)) (entry_bytes_of form (length s.rom)) e.count s.sheet rest
      (omega (arith, entries_bound (length s.rom) e.count e.counted, few_words form s g)) e.counted e.whole good)

  inputs_back : (rest : List ℕ) → input_section form (bytes_of form.count_bytes (records s) ++ (s.inputs ++ rest)) ≡ got s.inputs rest
  unfolding input_section
  inputs_back rest =
      section_back (bytes input_byte) input_byte (bytes_restored input_byte) form.count_bytes (λ (n : ℕ). leb n form.most_inputs) (λ (n : ℕ). record_bytes * n)
      (records s) s.inputs rest (omega (arith, few_records form s g, fits.inputs)) (le-leb (records s) form.most_inputs (few_records form s g))
      (omega (arith, whole_records form s g)) g.bytes

  -- a file as it is read
  nested : (a b c d e f h : List ℕ) → a ++ b ++ c ++ d ++ e ++ f ++ h ≡ a ++ (b ++ (c ++ (d ++ (e ++ (f ++ (h ++ []))))))
  nested a b c d e f h = simp (append_assoc, append-nil)

  pub file_back : below (256 ^ 2) s.rom → parse_of form (render_of form s) ≡ got s []
  unfolding parse_of render_of
  file_back w =
      let i = bytes_of form.count_bytes (records s) ++ (s.inputs ++ []) in
      let t = bytes_of 2 (length s.sheet / form.entry_bytes) ++ (s.sheet ++ i) in
      let r = bytes_of 2 (length s.rom) ++ (word_bytes s.rom ++ t) in
      rw (
        nested (bytes_of 2 form.number) (bytes_of 2 (length s.rom)) (word_bytes s.rom) (bytes_of 2 (length s.sheet / form.entry_bytes)) s.sheet (bytes_of form.count_bytes (records s)) s.inputs,
        number_back 2 form.number r fits.number,
        eq-eqb form.number form.number refl,
        rom_back t w,
        sheet_back i,
        inputs_back [],
      ) refl
