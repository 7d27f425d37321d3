-- Document 01: "Reading a written file gives its station; writing a station that was read gives the file's bytes", of each form by
-- itself, with the station as the form has it.
-- Assumes nothing.
use Rattle.std.specs.Prelude.{◌≡◌, List, [], ℕ, ◌^◌, ◌<◌}
use Rattle.station_file.specs.Reading.{got}
use Rattle.station_file.specs.Station.{Form, Station, parse_of}
use Rattle.station_file.specs.Write.{below, render_of, station_refusal}

module _ (form : Form) where
  -- the form's numbers fit their fields
  pub record Fits : Type 0 where
    pub number : form.number < 256 ^ 2
    pub entry : 0 < form.entry_bytes
    pub inputs : form.most_inputs < 256 ^ form.count_bytes

  pub record RoundTrip : Type 0 where
    -- reading a written file
    pub written : (s : Station) → station_refusal form s ≡ 0 → below (256 ^ 2) s.rom → parse_of form (render_of form s) ≡ got s []
    -- writing a station that was read, which the writer does not refuse
    pub good : (xs : List ℕ) (s : Station) (rest : List ℕ) → parse_of form xs ≡ got s rest → station_refusal form s ≡ 0
    pub read : (xs : List ℕ) (s : Station) (rest : List ℕ) → below 256 xs → parse_of form xs ≡ got s rest → render_of form s ≡ xs
    -- one station, one file
    pub one : (s t : Station) → station_refusal form s ≡ 0 → station_refusal form t ≡ 0 → below (256 ^ 2) s.rom → below (256 ^ 2) t.rom
        → render_of form s ≡ render_of form t → s ≡ t
