-- What the writer leaves in the lent buffer, and what it answers.
-- Assumes nothing.
use mathlib.Core.Path.{◌≡◌, ◌∙◌, refl, sym, ap}
use mathlib.Core.Bool.{false, cond}
use mathlib.Core.List.{List, ◌++◌, append_assoc}
use Prim.Native.Nat.{ℕ, ◌+◌, ◌*◌, ◌/◌, ◌<◌, ◌≤◌}
use lib.Dec.{eqb}
use lib.ListN.{length, drop}
use borrow.Author.Tests.{le-leb, lt-leb}
use Rattle.std.specs.Prelude.{Ok, Err}
use Rattle.station_file.specs.Station as station
use Rattle.station_file.specs.Station.{form1, form2, Station}
use Rattle.station_file.specs.Forms.{all_equal, entries_of, in_file, lowest_form}
use Rattle.station_file.specs.Write.{bytes_of, word_bytes, render_of, station_refusal, file_of, write_of}
use Rattle.station_file.specs.Answers.{file_number, station_of, written_by}
use Rattle.station_file.specs.Places.{form_of}
use Rattle.station_file.specs.declared.FileRefusal.{FileRefusal}
use Rattle.station_file.specs.declared.FileRefusal.TheVariants.{Form, Early, Count, Entry, After, Room}
use Rattle.station_file.specs.declared.forms.Form as forms
use Rattle.station_file.specs.declared.forms.Form.TheVariants.{One, Two}
use Rattle.station_file.proofs.Packing.{packed_count}
use Rattle.station_file.proofs.Parts.{length_render}
use Rattle.station_file.proofs.Soundness.{sound_of, few_words, few_entries, few_records}

joined : (a b c d e f g : List ℕ) → a ++ ((b ++ c) ++ ((d ++ e) ++ (f ++ g))) ≡ a ++ b ++ c ++ d ++ e ++ f ++ g
joined a b c d e f g = simp append_assoc

module _ (rom sheet inputs : List ℕ) where
  abbrev lent : Station
  lent = station_of rom sheet inputs

  -- a station that passes its tests is small
  module _ (good : station_refusal form2 lent ≡ 0) where
    pub small_rom : length rom ≤ 1024
    small_rom = few_words form2 lent (sound_of form2 lent good)

    pub small_sheet : length sheet ≤ 2048
    small_sheet = few_entries form2 lent (sound_of form2 lent good)

    pub small_inputs : length inputs / 11 ≤ 4095
    small_inputs = few_records form2 lent (sound_of form2 lent good)

  counts : (form : forms.Form) → (form_of form).count_bytes ≡ 2
  counts One = refl
  counts Two = refl

  module _ (form : forms.Form) where
    abbrev packed : List ℕ
    packed = entries_of (form_of form) sheet

    abbrev size : ℕ
    size = 8 + 2 * length rom + length packed + length inputs

    abbrev text : List ℕ
    text = render_of (form_of form) (in_file (form_of form) lent)

    -- the sections one after the other
    pub sections : (number words entries records : List ℕ) → number ≡ bytes_of 2 (form_of form).number → words ≡ bytes_of 2 (length rom) ++ word_bytes rom
        → entries ≡ bytes_of 2 (length sheet / 2) ++ packed → records ≡ bytes_of 2 (length inputs / 11) ++ inputs
        → number ++ (words ++ (entries ++ records)) ≡ text
    unfolding render_of in_file
    sections number words entries records a b c d =
        rw (a, b, c, d, packed_count form sheet, counts form) (joined (bytes_of 2 (form_of form).number) (bytes_of 2 (length rom)) (word_bytes rom) (bytes_of 2 (length sheet / 2)) packed (bytes_of 2 (length inputs / 11)) inputs)

    module _ (q : form_of form ≡ cond (all_equal sheet) form1 form2) where
      file : text ≡ file_of lent
      unfolding file_of lowest_form
      file = ap (λ (f : station.Form). render_of f (in_file f lent)) q

      lengths : length (file_of lent) ≡ size
      unfolding in_file
      lengths =
          ap length (sym file) ∙ length_render (form_of form) (in_file (form_of form) lent)
          ∙ ap (λ (n : ℕ). 6 + n + 2 * length rom + length packed + length inputs) (counts form)

      module _ (good : station_refusal form2 lent ≡ 0) (out : List ℕ) where
        pub full : length out < size → written_by (Err Room) out ≡ write_of lent out
        unfolding write_of
        full l = rw (good, lengths, lt-leb size (length out) l) refl

        pub writes : size ≤ length out → (front : List ℕ) → front ≡ text → written_by (Ok size) (front ++ drop size out) ≡ write_of lent out
        unfolding write_of
        writes l front e = rw (e ∙ file, good, lengths, le-leb size (length out) l) refl

  no_zero : (f : FileRefusal) → eqb (file_number f) 0 ≡ false
  no_zero Form = refl
  no_zero Early = refl
  no_zero Count = refl
  no_zero Entry = refl
  no_zero After = refl
  no_zero Room = refl

  pub refuses : (f : FileRefusal) (out : List ℕ) → file_number f ≡ station_refusal form2 lent → written_by (Err f) out ≡ write_of lent out
  unfolding write_of
  refuses f out h = rw (← h, no_zero f) refl
