-- The front of a buffer that was written to, and what the reader leaves in buffers that have room.
-- Assumes nothing.
use mathlib.Core.Path.{◌≡◌, ◌∙◌, ap}
use mathlib.Core.Bool.{true}
use mathlib.Core.List.{List}
use Prim.Native.Nat.{ℕ, ◌/◌, ◌≤◌}
use native.Mathlib.Omega.{arith}
use lib.ListN.{length, take, drop, length-append}
use lib.Seq.{take-append_seam}
use Rattle.station_file.specs.Read.{Buffers, station, overlay, fits_in, filled, placed, read_of}
use Rattle.station_file.specs.Reading.{Reading, got}
use Rattle.station_file.specs.Forms.{load_of}
use Rattle.station_file.specs.Station.{Station}
use Rattle.station_file.specs.Write.{records}

module _ (xs buffer : List ℕ) where
  pub overlay_front : take (length xs) (overlay xs buffer) ≡ xs
  overlay_front = take-append_seam xs (drop (length xs) buffer)

  pub overlay_long : length xs ≤ length (overlay xs buffer)
  overlay_long = omega (arith, length-append xs (drop (length xs) buffer))

pub read_so : (xs : List ℕ) (s : Station) (rest : List ℕ) (b : Buffers) → load_of xs ≡ got s rest → fits_in s b ≡ true
    → read_of xs b ≡ record { reply = station (length s.rom) (length s.sheet / 2) (records s); buffers = filled s b }
unfolding read_of
read_so xs s rest b p f = ap (λ (r : Reading Station). placed r b) p ∙ rw f
