-- The theorems of specs/Stations.antt, from those of each form.
-- Assumes nothing.
use mathlib.Core.Path.{◌≡◌, ◌∙◌, refl, sym, ap}
use mathlib.Core.Bool.{Bool, true, false}
use mathlib.Core.List.{List, []}
use mathlib.Core.Logic.{◌↔◌}
use Prim.Native.Nat.{ℕ, ◌^◌}
use native.Mathlib.Omega.{arith}
use Rattle.laws.proofs.Booleans.{not_passed}
use Rattle.station_file.specs.Forms.{all_equal, form_for, lowest_form, in_memory, in_file, loaded, load_of}
use Rattle.station_file.specs.Reading.{got}
use Rattle.station_file.specs.Station.{Form, form1, form2, Station, parse_of}
use Rattle.station_file.specs.Write.{below, render_of, station_refusal, file_of}
use Rattle.station_file.proofs.Kept.{file_sound}
use Rattle.station_file.proofs.Packing.{lowest_doubled, doubled_lowest, equal_doubled}
use Rattle.station_file.proofs.Soundness.{sound_of, unrefused, sheet_entries}
use Rattle.station_laws.specs.RoundTrip.{RoundTrip}
use Rattle.station_laws.specs.Stations.{Stations}
use Rattle.station_file.proofs.InForms.{read_in, written_in, lowest_1, lowest_2, form_of_file, read, read_sound}
use Rattle.station_laws.proofs.RoundTrip.{round_trip_1, round_trip_2}

-- a station that the writer takes, in its file and back in memory
module _ (s : Station) (e : station_refusal form2 s ≡ 0) where
  file_good : station_refusal (lowest_form s) (in_file (lowest_form s) s) ≡ 0
  unfolding in_file
  file_good =
      written_in (λ (f : Form). station_refusal f (in_file f s) ≡ 0) (unrefused form1 (in_file form1 s) (file_sound s (sound_of form2 s e))) e s

  by_equal : (b : Bool) → all_equal s.sheet ≡ b → in_memory (lowest_form s) (in_file (lowest_form s) s) ≡ s
  unfolding in_memory in_file
  by_equal true q =
      let even = (sheet_entries form2 s (sound_of form2 s e)).whole in
      rw (lowest_1 s q)
      (ap (λ (sheet : List ℕ). record { rom = s.rom; sheet = sheet; inputs = s.inputs }) (doubled_lowest s.sheet (omega (arith, even)) q))
  by_equal false q = rw (lowest_2 s q) refl

  memory_again : in_memory (lowest_form s) (in_file (lowest_form s) s) ≡ s
  memory_again = by_equal (all_equal s.sheet) refl

  pub loads_back : below (256 ^ 2) s.rom → load_of (file_of s) ≡ got s []
  unfolding load_of file_of in_file
  loads_back w =
      let f : Form = lowest_form s in
      let laws : RoundTrip f = written_in RoundTrip round_trip_1 round_trip_2 s in
      ap (λ (g : Form). loaded g (parse_of g (file_of s))) (form_of_file s)
      ∙ ap (loaded f) (laws.written (in_file f s) file_good w)
      ∙ ap (λ (x : Station). got x []) memory_again

file_again : (xs : List ℕ) (t : Station) → in_file (form_for xs) (in_memory (form_for xs) t) ≡ t
unfolding in_file in_memory
file_again xs =
    read_in (λ (f : Form). (t : Station) → in_file f (in_memory f t) ≡ t)
    (λ t. ap (λ (sheet : List ℕ). record { rom = t.rom; sheet = sheet; inputs = t.inputs }) (lowest_doubled t.sheet)) (λ t. refl) xs

module _ (xs : List ℕ) (s : Station) (rest : List ℕ) (e : load_of xs ≡ got s rest) where
  laws : RoundTrip (form_for xs)
  laws = read_in RoundTrip round_trip_1 round_trip_2 xs

  -- a file of the form that the writer uses
  pub same : below 256 xs → form_for xs ≡ lowest_form s → file_of s ≡ xs
  unfolding file_of
  same b q =
      let r = read xs s rest e in
      let f : Form = form_for xs in
      ap (λ (g : Form). render_of g (in_file g s)) (sym q)
      ∙ ap (λ (x : Station). render_of f (in_file f x)) (sym r.same)
      ∙ ap (render_of f) (file_again xs r.station)
      ∙ laws.read xs r.station rest b r.is

  equal_1 : form_for xs ≡ form1 → all_equal s.sheet ≡ true
  unfolding in_memory
  equal_1 q =
      let r = read xs s rest e in
      ap (λ (x : Station). all_equal x.sheet) (sym r.same)
      ∙ ap (λ (f : Form). all_equal (in_memory f r.station).sheet) q
      ∙ equal_doubled r.station.sheet

  first : below 256 xs → form_for xs ≡ form1 → file_of s ≡ xs
  first b q = same b (q ∙ sym (lowest_1 s (equal_1 q)))

  -- a file of form 2 is not the one that is written in form 1
  not_first : form_for xs ≡ form2 → file_of s ≡ xs → all_equal s.sheet ≡ true → ⊥
  not_first q h a =
      let c : form1 ≡ form2 = sym (lowest_1 s a) ∙ sym (form_of_file s) ∙ ap form_for h ∙ q in
      let n : ◌≡◌ {A = ℕ} 1 2 = ap (λ (f : Form). f.number) c in
      omega arith

  second : below 256 xs → form_for xs ≡ form2 → (file_of s ≡ xs) ↔ (all_equal s.sheet ≡ false)
  second b q = (λ h. not_passed (all_equal s.sheet) (not_first q h), λ a. same b (q ∙ sym (lowest_2 s a)))

one : (s t : Station) → station_refusal form2 s ≡ 0 → station_refusal form2 t ≡ 0 → below (256 ^ 2) s.rom → below (256 ^ 2) t.rom
    → file_of s ≡ file_of t → s ≡ t
one s t e f w x r =
    let p : got s [] ≡ got t [] = sym (loads_back s e w) ∙ ap load_of r ∙ loads_back t f x in
    cc

pub stations : Stations
stations = record {
  written = loads_back;
  good = λ xs s rest e. unrefused form2 s (read_sound xs s rest e);
  first = λ xs s rest b e q. first xs s rest e b q;
  second = λ xs s rest b e q. second xs s rest e b q;
  one = one;
}
