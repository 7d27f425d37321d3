-- What a file's sections give, each as a section of elements after its count.
-- Assumes nothing.
use mathlib.Core.Path.{◌≡◌, ◌∙◌, refl, sym, ap}
use mathlib.Core.Bool.{Bool, true, false, cond}
use mathlib.Core.List.{List, [], ◌∷◌}
use Prim.Native.Nat.{ℕ, ◌*◌, ◌≤◌}
use native.Mathlib.Omega.{arith}
use borrow.Author.Tests.{leb-true, leb-false}
use lib.Dec.{leb}
use lib.ListN.{length, take, drop, take-append-drop}
use Rattle.station_file.specs.Reading.{Reading, got, refused, and_then, tested, number, fields}
use Rattle.station_file.specs.Station as station
use Rattle.station_file.specs.Station.{Station, ended, word_field, rom_count, sheet_count, entry_byte, entry_field, input_byte, input_field, rom_section, sheet_section, input_section}
use Rattle.station_file.specs.Write.{every_at}
use Rattle.station_file.specs.Places.{words_of, form_of, read_as, bytes_of_section, section_of}
use Rattle.station_file.specs.declared.FileRefusal.{FileRefusal}
use Rattle.station_file.specs.declared.forms.Form.{Form}
use Rattle.station_file.specs.declared.forms.Form.TheVariants.{One, Two}
use Rattle.std.specs.Prelude.{Result, Ok, Err}
use Rattle.std.specs.Borrow.{Bor}
use Rattle.station_file.proofs.Local.{entries_same}
use Rattle.station_file.proofs.Scanned.{scanned}
use Rattle.station_file.proofs.WordLists.{enough, too_few, words_of_take}

-- what comes after a count, in two ways that agree
same_after : {A : Type 0} (count : ℕ → Bool) (f g : ℕ → List ℕ → Reading A) → ((n : ℕ) (rest : List ℕ) → f n rest ≡ g n rest) → (r : Reading ℕ)
    → and_then (tested count 22 r) f ≡ and_then (tested count 22 r) g
same_after count f g h (refused n) = refl
same_after count f g h (got n rest) = by_test (count n)
  where
    by_test : (b : Bool) → and_then (cond b (got n rest) (refused 22)) f ≡ and_then (cond b (got n rest) (refused 22)) g
    by_test true = h n rest
    by_test false = refl

-- the words of a ROM's bytes
abbrev as_words : List ℕ → List ℕ → Reading (List ℕ)
as_words bytes rest = got (words_of bytes) rest

words_after : (n : ℕ) (rest : List ℕ) → fields word_field 0 n rest ≡ and_then (bytes_of_section (λ (bytes : List ℕ). true) (2 * n) rest) as_words
words_after n rest = by_size (leb (2 * n) (length rest)) refl
  where
    by_size : (b : Bool) → leb (2 * n) (length rest) ≡ b
        → fields word_field 0 n rest ≡ and_then (cond b (got (take (2 * n) rest) (drop (2 * n) rest)) (refused 21)) as_words
    by_size true e =
        let h : 2 * n ≤ length rest = leb-true (2 * n) (length rest) e in
        enough 0 n rest h ∙ rw (words_of_take n rest h) refl
    by_size false e = too_few 0 n rest (leb-false (2 * n) (length rest) e)

after_then : {A B C : Type 0} (r : Reading A) (f : A → List ℕ → Reading B) (g : B → List ℕ → Reading C)
    → and_then (and_then r f) g ≡ and_then r (λ (v : A) (rest : List ℕ). and_then (f v rest) g)
after_then (got v rest) f g = refl
after_then (refused n) f g = refl

pub rom_is : (xs : List ℕ) → rom_section xs ≡ and_then (section_of rom_count (λ (bytes : List ℕ). true) 2 xs) as_words
unfolding rom_section
rom_is xs =
    same_after rom_count (fields word_field 0) (λ (n : ℕ) (rest : List ℕ). and_then (bytes_of_section (λ (bytes : List ℕ). true) (2 * n) rest) as_words) words_after (number 2 xs)
    ∙ sym (after_then (tested rom_count 22 (number 2 xs)) (λ (n : ℕ) (rest : List ℕ). bytes_of_section (λ (bytes : List ℕ). true) (2 * n) rest) as_words)

abbrev pub entries_test : station.Form → List ℕ → Bool
entries_test form bytes = every_at (entry_byte form bytes) 0 bytes

entries_after : (form : station.Form) (n : ℕ) (rest : List ℕ) → fields (entry_field form rest) 0 n rest ≡ bytes_of_section (entries_test form) n rest
entries_after form n rest =
    let front : every_at (entry_byte form (take n rest)) 0 (take n rest) ≡ every_at (entry_byte form rest) 0 (take n rest) =
    entries_same form (take n rest) (drop n rest) ∙ ap (λ (xs : List ℕ). every_at (entry_byte form xs) 0 (take n rest)) (take-append-drop n rest)
    in
    scanned (entry_byte form rest) 0 n rest ∙ rw (← front) refl

pub sheet_is : (form : station.Form) (words : ℕ) (xs : List ℕ) → sheet_section form words xs ≡ section_of (sheet_count words) (entries_test form) form.entry_bytes xs
unfolding sheet_section
sheet_is form words xs =
    same_after (sheet_count words) (λ (n : ℕ) (rest : List ℕ). fields (entry_field form rest) 0 (form.entry_bytes * n) rest)
    (λ (n : ℕ) (rest : List ℕ). bytes_of_section (entries_test form) (form.entry_bytes * n) rest)
    (λ n rest. entries_after form (form.entry_bytes * n) rest) (number 2 xs)

abbrev pub few : ℕ → Bool
few n = leb n 4095

counts : (form : Form) → (form_of form).count_bytes ≡ 2
counts One = refl
counts Two = refl

most : (form : Form) → (form_of form).most_inputs ≡ 4095
most One = refl
most Two = refl

pub inputs_is : (form : Form) (xs : List ℕ) → input_section (form_of form) xs ≡ section_of few (every_at input_byte 0) 11 xs
unfolding input_section
inputs_is form xs = rw (counts form, most form)
    (same_after few (λ (n : ℕ) (rest : List ℕ). fields input_field 0 (11 * n) rest) (λ (n : ℕ) (rest : List ℕ). bytes_of_section (every_at input_byte 0) (11 * n) rest)
    (λ n rest. scanned input_byte 0 (11 * n) rest) (number 2 xs))

-- a ROM section's answer, from that of its bytes
pub words_read : (r : Result (Bor (List ℕ) × Bor (List ℕ)) FileRefusal) (xs : List ℕ)
    → read_as (λ b. b.now) r ≡ section_of rom_count (λ (bytes : List ℕ). true) 2 xs → read_as (λ b. words_of b.now) r ≡ rom_section xs
words_read (Ok p) xs h = sym (rom_is xs ∙ rw (← h) refl)
words_read (Err f) xs h = sym (rom_is xs ∙ rw (← h) refl)

-- the end of a file
pub ends : (s : Station) (rest : List ℕ) → length rest ≡ 0 → got s [] ≡ ended s rest
ends s [] h = refl
ends s (b ∷ rest) h = absurd (omega arith)

pub goes_on : (s : Station) (rest : List ℕ) → (length rest ≡ 0 → ⊥) → refused 24 ≡ ended s rest
goes_on s [] h = absurd (h refl)
goes_on s (b ∷ rest) h = refl
