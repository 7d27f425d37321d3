-- A file that was read, taken apart.
-- Assumes nothing.
use mathlib.Core.Path.{◌≡◌, ◌∙◌, ap, refl, sym, subst}
use mathlib.Core.Bool.{true, and-eq-true_iff}
use mathlib.Core.List.{List, [], ◌∷◌, ◌++◌, append_assoc, append-nil}
use Prim.Native.Nat.{ℕ, ◌+◌, ◌*◌, ◌/◌, ◌%◌, ◌<◌}
use native.Mathlib.Omega.{arith}
use borrow.Author.Tests.{eqb-true, eq-eqb}
use lib.Dec.{eqb, leb}
use lib.ListN.{length, drop, length-append}
use Rattle.station_file.specs.Parts.{Sound, Parts, TakenApart}
use Rattle.station_file.specs.Reading.{got, tested, number}
use Rattle.station_file.specs.Station.{Form, Station, record_bytes, rom_count, sheet_count, entry_byte, input_byte, rom_section, sheet_section, input_section, ended, parse_of}
use Rattle.station_file.specs.Write.{bytes_of, word_bytes, every_at, sheet_length, records, render_of}
use Rattle.station_file.proofs.Counted.{words, bytes, any_words, tested_bytes, Counted, counted}
use Rattle.station_file.proofs.Digits.{number_took, length_number}
use Rattle.station_file.proofs.Local.{entry_bytes_of, entries_same, sheet_section_lem, sheet_split}
use Rattle.station_file.proofs.Readings.{not_got, got_then, got_tested}
use Rattle.station_file.proofs.Soundness.{length_of, count_of}
use Rattle.station_file.proofs.WordLists.{length_word_bytes}
use Rattle.station_file.proofs.Taking.{Bytes, Took, took_then, bytes_below}

-- the three sections: a field for each that is counted, or eleven bytes
abbrev each : ℕ → ℕ
each n = n

module _ (xs vs rest : List ℕ) where
  abbrev pub Rom : Type 0
  Rom = Counted words (λ k v. true) any_words 2 rom_count each xs vs rest

  pub rom_counted : rom_section xs ≡ got vs rest → Rom
  unfolding rom_section
  rom_counted e = counted words (λ k v. true) any_words 2 rom_count each xs vs rest e

  abbrev Sheet : Form → ℕ → Type 0
  Sheet form n =
      Counted (bytes (entry_byte form (drop 2 xs))) (entry_byte form (drop 2 xs)) (tested_bytes (entry_byte form (drop 2 xs))) 2 (sheet_count n) (entry_bytes_of form n) xs vs rest

  module _ (form : Form) (n : ℕ) (e : sheet_section form n xs ≡ got vs rest) where
    sheet_counted : Sheet form n
    sheet_counted =
        counted (bytes (entry_byte form (drop 2 xs))) (entry_byte form (drop 2 xs)) (tested_bytes (entry_byte form (drop 2 xs))) 2 (sheet_count n) (entry_bytes_of form n) xs vs rest
        (sym (sheet_section_lem form n xs) ∙ e)

    sheet_good : every_at (entry_byte form vs) 0 vs ≡ true
    sheet_good =
        entries_same form vs rest ∙ ap (λ (l : List ℕ). every_at (entry_byte form l) 0 vs) (sym (sheet_split form n xs vs rest e)) ∙ sheet_counted.good

  abbrev Inputs : Form → Type 0
  Inputs form =
      Counted (bytes input_byte) input_byte (tested_bytes input_byte) form.count_bytes (λ (n : ℕ). leb n form.most_inputs) (λ (n : ℕ). record_bytes * n) xs vs rest

  inputs_counted : (form : Form) → input_section form xs ≡ got vs rest → Inputs form
  unfolding input_section
  inputs_counted form e =
      counted (bytes input_byte) input_byte (tested_bytes input_byte) form.count_bytes (λ (n : ℕ). leb n form.most_inputs) (λ (n : ℕ). record_bytes * n) xs vs rest e

-- a station at the end of its file
record Ended (s : Station) (left : List ℕ) (t : Station) (rest : List ℕ) : Type 0 where
  same : s ≡ t
  none : left ≡ []
  over : rest ≡ []

at_end : (s : Station) (left : List ℕ) (t : Station) (rest : List ℕ) → ended s left ≡ got t rest → Ended s left t rest
at_end s [] t rest e =
    let p : s ≡ t = cc in
    let q : rest ≡ [] = cc in
    record { same = p; none = refl; over = q }
at_end s (b ∷ left) t rest e = absurd (not_got 24 t rest e)

-- the length of a file as it is written
pub length_render : (form : Form) (s : Station)
    → length (render_of form s) ≡ 6 + form.count_bytes + 2 * length s.rom + length s.sheet + length s.inputs
unfolding render_of
length_render form s = simp (length-append, length_number, length_word_bytes) (omega arith)

-- the parts of a file, as they are taken and as they are written
pub flat : (a b c d e f g : List ℕ) → a ++ (b ++ c) ++ (d ++ e) ++ (f ++ g) ≡ a ++ b ++ c ++ d ++ e ++ f ++ g
flat a b c d e f g = simp append_assoc

module _ (form : Form) (s : Station) where
  sound : {xs ys zs us vs ws : List ℕ} → Rom xs s.rom ys → Sheet zs s.sheet us form (length s.rom) → every_at (entry_byte form s.sheet) 0 s.sheet ≡ true
      → Inputs vs s.inputs ws form → Sound form s
  sound r t h i =
      let n : ℕ = length s.inputs in
      let v : n ≡ record_bytes * i.count = i.values in
      let whole : n % record_bytes ≡ 0 = omega arith in
      let counted : i.count ≡ records s = omega arith in
      record {
        words = ap rom_count r.values ∙ r.passes;
        sheet = ap (sheet_length form (length s.rom)) t.values ∙ length_of form.entry_bytes (length s.rom) t.count t.passes;
        entries = h;
        inputs = (and-eq-true_iff (eqb (n % record_bytes) 0) (leb (records s) form.most_inputs)).1
            (eq-eqb (n % record_bytes) 0 whole, subst (λ (m : ℕ). leb m form.most_inputs ≡ true) counted i.passes);
        bytes = i.good;
      }

  text : {xs a b c : List ℕ} → 0 < form.entry_bytes → Took xs (bytes_of 2 form.number) a → Rom a s.rom b → Sheet b s.sheet c form (length s.rom)
      → Inputs c s.inputs [] form → Took xs (render_of form s) []
  unfolding render_of
  text {xs} {a} {b} {c} z h r t i =
      let v : length s.inputs ≡ record_bytes * i.count = i.values in
      let counted : i.count ≡ records s = omega arith in
      let entries : length s.sheet / form.entry_bytes ≡ t.count = count_of z t.values in
      rw (← (flat (bytes_of 2 form.number) (bytes_of 2 (length s.rom)) (word_bytes s.rom) (bytes_of 2 (length s.sheet / form.entry_bytes)) s.sheet (bytes_of form.count_bytes (records s)) s.inputs), r.values, entries, ← counted)
      (took_then (took_then (took_then h r.took) t.took) i.took)

  parts : (xs rest : List ℕ) → rest ≡ [] → Sound form s → Took xs (render_of form s) [] → Parts form xs s rest
  parts xs rest o g t =
      let e : xs ≡ t.bytes = t.split ∙ append-nil t.bytes in
      record {
        over = o;
        sound = g;
        size = ap length e ∙ t.size;
        same = λ b. sym (e ∙ t.same (subst Bytes e (bytes_below xs b)));
      }

-- a form with entries of some bytes: a count of entries is found again from their bytes
module _ (form : Form) (entry : 0 < form.entry_bytes) where
  pub taken_apart : TakenApart form
  unfolding parse_of
  taken_apart xs s rest e =
      let p = got_then (tested (λ (n : ℕ). eqb n form.number) 20 (number 2 xs)) _ s rest e in
      let q = got_then (rom_section p.left) _ s rest p.then in
      let r = got_then (sheet_section form (length q.value) q.left) _ s rest q.then in
      let t = got_then (input_section form r.left) _ s rest r.then in
      let read : Station = record { rom = q.value; sheet = r.value; inputs = t.value } in
      let end = at_end read t.left s rest t.then in
      let head = got_tested (λ (n : ℕ). eqb n form.number) 20 (number 2 xs) p.value p.left p.first in
      let rom = rom_counted p.left q.value q.left q.first in
      let sheet = sheet_counted q.left r.value r.left form (length q.value) r.first in
      let good = sheet_good q.left r.value r.left form (length q.value) r.first in
      let inputs = inputs_counted r.left t.value [] form (t.first ∙ ap (got t.value) end.none) in
      let first = number_took 2 xs form.number p.left (head.0 ∙ ap (λ (n : ℕ). got n p.left) (eqb-true p.value form.number head.1)) in
      subst (λ (x : Station). Parts form xs x rest) end.same
      (parts form read xs rest end.over (sound form read {zs = q.left} {us = r.left} rom sheet good inputs) (text form read entry first rom sheet inputs))
