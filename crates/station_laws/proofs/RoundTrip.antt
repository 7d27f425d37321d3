-- The theorems of specs/RoundTrip.antt.
-- Assumes nothing.
use mathlib.Core.Path.{◌≡◌, ◌∙◌, ap, sym}
use mathlib.Core.List.{[]}
use Prim.Native.Nat.{◌^◌}
use lib.Dec.{lit<}
use Rattle.station_file.specs.Reading.{got}
use Rattle.station_file.specs.Station.{Form, form1, form2, Station, parse_of}
use Rattle.station_file.specs.Write.{below, render_of, station_refusal}
use Rattle.station_file.proofs.Parts.{taken_apart}
use Rattle.station_file.proofs.Soundness.{sound_of, unrefused}
use Rattle.station_laws.specs.RoundTrip.{Fits, RoundTrip}
use Rattle.station_laws.proofs.Back.{file_back}

module _ (form : Form) (fits : Fits form) where
  written : (s : Station) → station_refusal form s ≡ 0 → below (256 ^ 2) s.rom → parse_of form (render_of form s) ≡ got s []
  written s e w = file_back form fits s (sound_of form s e) w

  one : (s t : Station) → station_refusal form s ≡ 0 → station_refusal form t ≡ 0 → below (256 ^ 2) s.rom → below (256 ^ 2) t.rom
      → render_of form s ≡ render_of form t → s ≡ t
  one s t e f w x r =
      let p : got s [] ≡ got t [] = sym (written s e w) ∙ ap (parse_of form) r ∙ written t f x in
      cc

  pub round_trip : RoundTrip form
  round_trip = record {
    written = written;
    good = λ xs s rest e. unrefused form s (taken_apart form fits.entry xs s rest e).sound;
    read = λ xs s rest b e. (taken_apart form fits.entry xs s rest e).same b;
    one = one;
  }

-- both forms
fits_1 : Fits form1
fits_1 = record { number = lit< tt; entry = lit< tt; inputs = lit< tt }

pub round_trip_1 : RoundTrip form1
round_trip_1 = round_trip form1 fits_1

fits_2 : Fits form2
fits_2 = record { number = lit< tt; entry = lit< tt; inputs = lit< tt }

pub round_trip_2 : RoundTrip form2
round_trip_2 = round_trip form2 fits_2
