-- What the reader leaves in its buffers for a good file, and what is printed for it.
-- Assumes nothing.
use mathlib.Core.Path.{◌≡◌, ◌∙◌, refl, ap}
use mathlib.Core.Bool.{true}
use mathlib.Core.List.{List}
use Prim.Native.Nat.{ℕ, ◌*◌, ◌/◌, ◌≤◌}
use native.Mathlib.Omega.{arith}
use lib.ListN.{length, take}
use borrow.Author.Tests.{le-leb}
use Rattle.station_file.specs.Parts.{Sound}
use Rattle.station_file.specs.Read as read
use Rattle.station_file.specs.Read.{Buffers, Read, station, fits_in, placed, read_of}
use Rattle.station_file.specs.Reading.{Reading, got, refused}
use Rattle.station_file.specs.Forms.{load_of}
use Rattle.station_file.specs.Station.{Station, form2}
use Rattle.station_file.proofs.Overlaid.{overlay_front, overlay_long, read_so}
use Rattle.station_file.proofs.InForms.{read_sound}
use Rattle.station_file.proofs.Soundness.{few_words, few_entries, sheet_entries, whole_records, few_records}
use Rattle.transcript.specs.Transcript.{station_text, read_text}
use Rattle.transcript.specs.Why.{refusal_line, told_of}

-- what `station` prints for a file is told of it
pub told_same : (r : Reading Station) → told_of station_text r ≡ read_text r
told_same (got s rest) = refl
told_same (refused n) = refl

-- a station that was read, as it stands in the buffers
pub record Loads (r : Reading Station) (words entries records : ℕ) (c : Buffers) : Type 0 where
  pub rom : words ≤ length c.rom
  pub sheet : 2 * entries ≤ length c.sheet
  pub even : 2 * entries ≤ 2048
  pub inputs : 11 * records ≤ length c.inputs
  pub few : 11 * records ≤ 45045
  pub text : (good : Station → List ℕ)
      → good (record { rom = take words c.rom; sheet = take (2 * entries) c.sheet; inputs = take (11 * records) c.inputs }) ≡ told_of good r

-- two bytes an entry
entries_whole : (s : Station) → Sound form2 s → 2 * (length s.sheet / 2) ≡ length s.sheet
entries_whole s g = let e = sheet_entries form2 s g in omega (arith, e.whole)

-- buffers with room for every sound station
module _ (b : Buffers) (words_room : length b.rom ≡ 1024) (sheet_room : length b.sheet ≡ 2048) (inputs_room : length b.inputs ≡ 45045) where
  room : (s : Station) → Sound form2 s → fits_in s b ≡ true
  room s g =
      rw (
        le-leb (length s.rom) (length b.rom) (omega (arith, few_words form2 s g)),
        le-leb (length s.sheet) (length b.sheet) (omega (arith, few_entries form2 s g)),
        le-leb (length s.inputs) (length b.inputs) (omega (arith, few_records form2 s g, whole_records form2 s g)),
      )

  stands : (s : Station) (rest : List ℕ) → Sound form2 s
      → Loads (got s rest) (length s.rom) (length s.sheet / 2) (length s.inputs / 11) (read.filled s b)
  stands s rest g =
      let w = whole_records form2 s g in
      let t = entries_whole s g in
      record {
        rom = overlay_long s.rom b.rom;
        sheet = rw t (overlay_long s.sheet b.sheet);
        even = rw t (few_entries form2 s g);
        inputs = rw w (overlay_long s.inputs b.inputs);
        few = omega (arith, few_records form2 s g);
        text = λ good. rw (w, t, overlay_front s.rom b.rom, overlay_front s.sheet b.sheet, overlay_front s.inputs b.inputs);
      }

  module _ (file : List ℕ) where
    -- a good file is read
    is_read : (s : Station) (rest : List ℕ) → load_of file ≡ got s rest → (x : Read) → x ≡ read_of file b
        → x ≡ record { reply = station (length s.rom) (length s.sheet / 2) (length s.inputs / 11); buffers = read.filled s b }
    is_read s rest q x e = e ∙ read_so file s rest b q (room s (read_sound file s rest q))

    -- a bad file is refused
    not_read : (m : ℕ) → load_of file ≡ refused m → (x : Read) → x ≡ read_of file b → x.reply ≡ read.refused m
    unfolding read_of
    not_read m q x e = ap (λ (y : Read). y.reply) (e ∙ ap (λ (r : Reading Station). placed r b) q)

    pub loads : (words entries records : ℕ) (c : Buffers) → record { reply = station words entries records; buffers = c } ≡ read_of file b
        → Loads (load_of file) words entries records c
    loads words entries records c e = go (load_of file) refl
      where
        go : (r : Reading Station) → load_of file ≡ r → Loads r words entries records c
        go (got s rest) q =
            let x = is_read s rest q _ e in
            let f = ap (λ (y : Read). y.reply) x in
            let k : c ≡ read.filled s b = ap (λ (y : Read). y.buffers) x in
            let w : words ≡ length s.rom = cc in
            let t : entries ≡ length s.sheet / 2 = cc in
            let n : records ≡ length s.inputs / 11 = cc in
            rw (w, t, n, k) (stands s rest (read_sound file s rest q))
        go (refused m) q =
            let f = not_read m q _ e in
            absurd (let z : ◌≡◌ {A = ℕ} 0 1 = cc in omega arith)

    pub bad : (n : ℕ) (c : Buffers) → record { reply = read.refused n; buffers = c } ≡ read_of file b
        → (good : Station → List ℕ) → refusal_line n ≡ told_of good (load_of file)
    bad n c e good = go (load_of file) refl
      where
        go : (r : Reading Station) → load_of file ≡ r → refusal_line n ≡ told_of good r
        go (got s rest) q =
            let f = ap (λ (y : Read). y.reply) (is_read s rest q _ e) in
            absurd (let z : ◌≡◌ {A = ℕ} 0 1 = cc in omega arith)
        go (refused m) q =
            let f = not_read m q _ e in
            let g : n ≡ m = cc in
            rw g
