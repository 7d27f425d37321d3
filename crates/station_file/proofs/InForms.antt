-- The form that a file is read in, and the one that a station is written in: what holds of both forms holds of it. And a station that was
-- read, which the writer takes.
-- Assumes nothing.
use mathlib.Core.Path.{◌≡◌, refl, subst}
use mathlib.Core.Bool.{true, false}
use mathlib.Core.List.{List}
use Prim.Native.Nat.{ℕ, ◌<◌}
use lib.Dec.{eqb, lit<}
use Rattle.laws.proofs.Booleans.{either}
use Rattle.station_file.specs.Forms.{all_equal, numbered, form_for, lowest_form, in_memory, loaded, load_of}
use Rattle.station_file.specs.Parts.{Sound}
use Rattle.station_file.specs.Reading.{Reading, got, refused, number}
use Rattle.station_file.specs.Station.{Form, form1, form2, Station, parse_of}
use Rattle.station_file.specs.Write.{render_of, file_of}
use Rattle.station_file.proofs.Kept.{memory_sound}
use Rattle.station_file.proofs.Parts.{taken_apart}
use Rattle.station_file.proofs.Readings.{not_got}

module _ (P : Form → Type 0) (one : P form1) (two : P form2) where
  by_number : (r : Reading ℕ) → P (numbered r)
  by_number (got n rest) = either P (eqb n 2) form2 form1 two one
  by_number (refused n) = one

  pub read_in : (xs : List ℕ) → P (form_for xs)
  unfolding form_for
  read_in xs = by_number (number 2 xs)

  pub written_in : (s : Station) → P (lowest_form s)
  unfolding lowest_form
  written_in s = either P (all_equal s.sheet) form1 form2 one two

module _ (s : Station) where
  pub lowest_1 : all_equal s.sheet ≡ true → lowest_form s ≡ form1
  unfolding lowest_form
  lowest_1 e = rw e refl

  pub lowest_2 : all_equal s.sheet ≡ false → lowest_form s ≡ form2
  unfolding lowest_form
  lowest_2 e = rw e refl

-- a file has the number of the form that it is written in
number_1 : (s : Station) → form_for (render_of form1 s) ≡ form1
unfolding form_for render_of number
number_1 s = refl

number_2 : (s : Station) → form_for (render_of form2 s) ≡ form2
unfolding form_for render_of number
number_2 s = refl

pub form_of_file : (s : Station) → form_for (file_of s) ≡ lowest_form s
unfolding file_of
form_of_file s = written_in (λ (f : Form). (t : Station) → form_for (render_of f t) ≡ f) number_1 number_2 s _

-- a file that was read, in its own form
pub record Read (xs : List ℕ) (s : Station) (rest : List ℕ) : Type 0 where
  pub station : Station
  pub is : parse_of (form_for xs) xs ≡ got station rest
  pub same : in_memory (form_for xs) station ≡ s

was_read : (f : Form) (r : Reading Station) (s : Station) (rest : List ℕ) → loaded f r ≡ got s rest → (t : Station) × ((r ≡ got t rest) × (in_memory f t ≡ s))
was_read f (got t left) s rest e =
    let l : left ≡ rest = cc in
    (t, (rw l refl, cc))
was_read f (refused n) s rest e = absurd (not_got n s rest e)

memory_same : (t : Station) → Sound form2 t → Sound form2 (in_memory form2 t)
unfolding in_memory
memory_same t g = g

module _ (xs : List ℕ) (s : Station) (rest : List ℕ) (e : load_of xs ≡ got s rest) where
  pub read : Read xs s rest
  unfolding load_of
  read =
      let p = was_read (form_for xs) (parse_of (form_for xs) xs) s rest e in
      record { station = p.0; is = p.1.0; same = p.1.1 }

  -- the writer takes it
  pub read_sound : Sound form2 s
  read_sound =
      let entry = read_in (λ (f : Form). 0 < f.entry_bytes) (lit< tt) (lit< tt) xs in
      let g = (taken_apart (form_for xs) entry xs read.station rest read.is).sound in
      subst (Sound form2) read.same (read_in (λ (f : Form). (t : Station) → Sound f t → Sound form2 (in_memory f t)) memory_sound memory_same xs read.station g)
