-- Document 01: "Reading a written file gives its station; writing a station that was read gives the file's bytes", and document 02,
-- E5: form 1 is "written where all are equal, so until E12 such a form 2 file is not written back as it was". Proved in
-- proofs/Stations.antt.
-- Assumes nothing.
use Rattle.std.specs.Prelude.{◌≡◌, false, List, [], ◌↔◌, ℕ, ◌^◌}
use Rattle.station_file.specs.Forms.{all_equal, form_for, load_of}
use Rattle.station_file.specs.Reading.{got}
use Rattle.station_file.specs.Station.{form1, form2, Station}
use Rattle.station_file.specs.Write.{below, station_refusal, file_of}

pub record Stations : Type 0 where
  -- reading a written file
  pub written : (s : Station) → station_refusal form2 s ≡ 0 → below (256 ^ 2) s.rom → load_of (file_of s) ≡ got s []
  -- a station that was read is not refused by the writer
  pub good : (xs : List ℕ) (s : Station) (rest : List ℕ) → load_of xs ≡ got s rest → station_refusal form2 s ≡ 0
  -- writing it gives every file of form 1 back
  pub first : (xs : List ℕ) (s : Station) (rest : List ℕ) → below 256 xs → load_of xs ≡ got s rest → form_for xs ≡ form1 → file_of s ≡ xs
  -- and of form 2 exactly those in which not all are equal
  pub second : (xs : List ℕ) (s : Station) (rest : List ℕ) → below 256 xs → load_of xs ≡ got s rest → form_for xs ≡ form2
      → (file_of s ≡ xs) ↔ (all_equal s.sheet ≡ false)
  -- one station, one file
  pub one : (s t : Station) → station_refusal form2 s ≡ 0 → station_refusal form2 t ≡ 0 → below (256 ^ 2) s.rom → below (256 ^ 2) t.rom
      → file_of s ≡ file_of t → s ≡ t
