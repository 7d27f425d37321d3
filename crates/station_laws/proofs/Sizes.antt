-- What a good file holds, from its parts.
-- Assumes nothing.
use mathlib.Core.Path.{◌≡◌, refl}
use Prim.Native.Nat.{ℕ, ◌≤◌, ◌<◌}
use mathlib.Core.List.{List}
use native.Mathlib.Omega.{arith}
use lib.Dec.{lit<}
use lib.ListN.{length}
use Rattle.station_file.specs.Forms.{form_for}
use Rattle.station_file.specs.Reading.{got}
use Rattle.station_file.specs.Station.{Form, form1, form2, Station, longest_of, longest, parse_of}
use Rattle.station_file.proofs.Parts.{taken_apart, length_render}
use Rattle.station_file.proofs.Soundness.{few_words, few_entries, whole_records, few_records}
use Rattle.station_laws.specs.Sizes.{Sizes}
use Rattle.station_file.proofs.InForms.{read_in, read, read_sound}

-- a file of a form that counts its inputs in two bytes
module _ (form : Form) (entry : 0 < form.entry_bytes) (count : form.count_bytes ≡ 2) where
  file_bound : (xs : List ℕ) (s : Station) (rest : List ℕ) → parse_of form xs ≡ got s rest → length xs ≤ longest_of form
  file_bound xs s rest e =
      let p = taken_apart form entry xs s rest e in
      let g = p.sound in
      omega (arith, p.size, length_render form s, few_words form s g, few_entries form s g, whole_records form s g, few_records form s g)

bound : (xs : List ℕ) (s : Station) (rest : List ℕ) → parse_of (form_for xs) xs ≡ got s rest → length xs ≤ longest
bound xs s rest e =
    read_in (λ (f : Form). parse_of f xs ≡ got s rest → length xs ≤ longest)
    (λ q. omega (arith, file_bound form1 (lit< tt) refl xs s rest q)) (file_bound form2 (lit< tt) refl xs s rest) xs e

pub sizes : Sizes
sizes xs s rest e =
    let g = read_sound xs s rest e in
    let r = few_words form2 s g in
    let t = few_entries form2 s g in
    let i = few_records form2 s g in
    let w = whole_records form2 s g in
    let p = read xs s rest e in
    record { rom = r; sheet = t; inputs = omega arith; file = bound xs p.station rest p.is }
