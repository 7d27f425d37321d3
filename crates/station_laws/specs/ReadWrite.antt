-- Both round trips as the reader and the writer go them, with their answers and what they leave in lent buffers. Proved in
-- proofs/ReadWrite.antt.
-- Assumes nothing.
use Rattle.std.specs.Prelude.{◌≡◌, true, List, ℕ, ◌*◌, ◌/◌, ◌^◌, ◌≤◌, length, take}
use Rattle.station_file.specs.Read.{Buffers, station, overlay, fits_in, filled, read_of}
use Rattle.station_file.specs.Forms.{form_for, lowest_form}
use Rattle.station_file.specs.Station.{Station, record_bytes}
use Rattle.station_file.specs.Write.{below, records, wrote, write_of}

-- the station at the front of the reader's buffers
abbrev pub front : ℕ → ℕ → ℕ → Buffers → Station
front words entries count b =
    record { rom = take words b.rom; sheet = take (2 * entries) b.sheet; inputs = take (record_bytes * count) b.inputs }

pub record ReadWrite : Type 0 where
  -- "Reading a written file gives its station", in buffers that have room for it
  pub written : (s : Station) (out : List ℕ) (n : ℕ) (b : Buffers) → below (256 ^ 2) s.rom
      → (write_of s out).reply ≡ wrote n → fits_in s b ≡ true
      → read_of (take n (write_of s out).out) b
      ≡ record { reply = station (length s.rom) (length s.sheet / 2) (records s); buffers = filled s b }
  -- "writing a station that was read gives the file's bytes", in a buffer that has room for them, where the file has the form that
  -- the writer uses
  pub read : (xs : List ℕ) (b : Buffers) (words entries count : ℕ) (out : List ℕ) → below 256 xs
      → (read_of xs b).reply ≡ station words entries count → form_for xs ≡ lowest_form (front words entries count (read_of xs b).buffers)
      → length xs ≤ length out
      → write_of (front words entries count (read_of xs b).buffers) out
      ≡ record { reply = wrote (length xs); out = overlay xs out }
