-- What the reader answers, from the sections of the file.
-- Assumes nothing.
use mathlib.Core.Path.{◌≡◌, ◌∙◌, refl, sym, ap}
use mathlib.Core.List.{List, [], ◌++◌}
use Prim.Native.Nat.{ℕ, ◌*◌, ◌/◌, ◌<◌, ◌≤◌}
use native.Mathlib.Nat.{div-one}
use native.Mathlib.Omega.{arith}
use lib.ListN.{length, take, drop}
use lib.Seq.{length-take-le}
use borrow.Author.Tests.{le-leb, lt-leb}
use Rattle.std.specs.Prelude.{Ok, Err}
use Rattle.station_file.specs.Reading.{got, refused}
use Rattle.station_file.specs.Station.{Station, form2, parse_of}
use Rattle.station_file.specs.Station as station
use Rattle.station_file.specs.Forms as forms
use Rattle.station_file.specs.Forms.{ranges_of, in_memory, form_for, load_of}
use Rattle.station_file.specs.Read.{Buffers, read_of}
use Rattle.station_file.specs.Answers.{file_number, buffers_of, read_by}
use Rattle.station_file.specs.Places.{words_of, form_of}
use Rattle.station_file.specs.declared.FileRefusal.{FileRefusal}
use Rattle.station_file.specs.declared.FileRefusal.TheVariants.{Room}
use Rattle.station_file.specs.declared.forms.Form.{Form}
use Rattle.station_file.specs.declared.forms.Form.TheVariants.{One, Two}
use Rattle.station_file.proofs.Packing.{length_doubled}
use Rattle.station_file.proofs.InForms.{read_sound}
use Rattle.station_file.proofs.Soundness.{sheet_entries}
use Rattle.station_file.proofs.WordLists.{length_words}

module _ (form : Form) (file : List ℕ) (q : form_of form ≡ form_for file) where
  loads : load_of file ≡ forms.loaded (form_of form) (parse_of (form_of form) file)
  unfolding load_of
  loads = ap (λ (g : station.Form). forms.loaded g (parse_of g file)) (sym q)

  pub refuses : (f : FileRefusal) (b : Buffers) → refused (file_number f) ≡ parse_of (form_of form) file → read_by (Err f) b ≡ read_of file b
  unfolding read_of
  refuses f b h = rw (loads, ← h) refl

  module _ (rom sheet inputs : List ℕ) (h : got (record { rom = words_of rom; sheet = sheet; inputs = inputs }) [] ≡ parse_of (form_of form) file) where
    abbrev ranges : List ℕ
    ranges = ranges_of (form_of form) sheet

    lem : load_of file ≡ got (record { rom = words_of rom; sheet = ranges; inputs = inputs }) []
    unfolding in_memory
    lem = loads ∙ ap (forms.loaded (form_of form)) (sym h)

    even : (f : Form) (n : ℕ) → length (ranges_of (form_of f) sheet) ≡ 2 * n → length (ranges_of (form_of f) sheet) ≡ 2 * (length sheet / (form_of f).entry_bytes)
    even One n e = length_doubled sheet ∙ ap (λ (k : ℕ). 2 * k) (sym (div-one (length sheet)))
    even Two n e = omega (arith, e)

    -- the bytes of its entries in memory
    length_ranges : length ranges ≡ 2 * (length sheet / (form_of form).entry_bytes)
    length_ranges = let e = sheet_entries form2 _ (read_sound file _ [] lem) in even form e.count e.whole

    abbrev full : List ℕ → List ℕ → List ℕ → Type 0
    full r s i = read_by (Err Room) (buffers_of r s i) ≡ read_of file (buffers_of r s i)

    pub rom_full : (r s i : List ℕ) → length r < length rom / 2 → full r s i
    unfolding read_of
    rom_full r s i x = rw (lem, length_words (length rom / 2) rom, lt-leb (length rom / 2) (length r) x) refl

    module _ (w : ℕ) (k : w ≡ (form_of form).entry_bytes) (r s i : List ℕ) where
      sheet_size : length ranges ≡ 2 * (length sheet / w)
      sheet_size = length_ranges ∙ ap (λ (n : ℕ). 2 * (length sheet / n)) (sym k)

      -- the part of the buffer for its entries has room for them
      pub entries_room : length sheet / w ≤ length s / 2 → length (take (2 * (length sheet / w)) s) ≡ length ranges
      entries_room y =
          let room : 2 * (length sheet / w) ≤ length s = omega arith in length-take-le (2 * (length sheet / w)) s room ∙ sym sheet_size

      pub sheet_full : length rom / 2 ≤ length r → length s / 2 < length sheet / w → full r s i
      unfolding read_of
      sheet_full x y =
          let n : length s < 2 * (length sheet / w) = omega arith in
          rw (lem, length_words (length rom / 2) rom, sheet_size, le-leb (length rom / 2) (length r) x, lt-leb (2 * (length sheet / w)) (length s) n) refl

      pub inputs_full : length rom / 2 ≤ length r → length sheet / w ≤ length s / 2 → length i < length inputs → full r s i
      unfolding read_of
      inputs_full x y z =
          let n : 2 * (length sheet / w) ≤ length s = omega arith in
          rw (lem, length_words (length rom / 2) rom, sheet_size, le-leb (length rom / 2) (length r) x, le-leb (2 * (length sheet / w)) (length s) n, lt-leb (length inputs) (length i) z) refl

      pub fills : (r' s' i' : List ℕ) → length rom / 2 ≤ length r → length sheet / w ≤ length s / 2 → length inputs ≤ length i
          → r' ≡ words_of rom → s' ≡ ranges → i' ≡ inputs
          → read_by (Ok (record { words = length rom / 2; entries = length sheet / w; records = length inputs / 11 }))
          (buffers_of (r' ++ drop (length rom / 2) r) (s' ++ drop (2 * (length sheet / w)) s) (i' ++ drop (length inputs) i))
          ≡ read_of file (buffers_of r s i)
      unfolding read_of
      fills r' s' i' x y z a b c =
          let n : 2 * (length sheet / w) ≤ length s = omega arith in
          let half : 2 * (length sheet / w) / 2 ≡ length sheet / w = omega arith in
          rw (
            lem,
            a,
            b,
            c,
            length_words (length rom / 2) rom,
            sheet_size,
            le-leb (length rom / 2) (length r) x,
            le-leb (2 * (length sheet / w)) (length s) n,
            le-leb (length inputs) (length i) z,
            half,
          ) refl
