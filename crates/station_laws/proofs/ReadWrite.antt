-- The theorems of specs/ReadWrite.antt, from those of specs/Stations.antt.
-- Assumes nothing.
use mathlib.Core.Path.{◌≡◌, ◌∙◌, ap, refl}
use mathlib.Core.Bool.{Bool, true, false, cond}
use mathlib.Core.List.{List, []}
use Prim.Native.Nat.{ℕ, ◌*◌, ◌/◌, ◌^◌, ◌≤◌}
use native.Mathlib.Omega.{arith}
use borrow.Author.Tests.{eqb-true, le-leb}
use lib.Dec.{eqb, leb}
use lib.ListN.{length, take}
use Rattle.station_file.specs.Read as read
use Rattle.station_file.specs.Read.{Buffers, Read, station, overlay, fits_in, filled, placed, read_of}
use Rattle.station_file.specs.Reading.{Reading, got, refused}
use Rattle.station_file.specs.Station.{form2, Station, record_bytes}
use Rattle.station_file.specs.Forms.{form_for, lowest_form, load_of}
use Rattle.station_file.specs.Parts.{Sound}
use Rattle.station_file.specs.Write as write
use Rattle.station_file.specs.Write.{below, records, wrote, station_refusal, file_of, write_of}
use Rattle.station_laws.specs.ReadWrite.{front, ReadWrite}
use Rattle.station_file.proofs.Overlaid.{overlay_front, read_so}
use Rattle.station_file.proofs.Soundness.{unrefused, sheet_entries, whole_records}
use Rattle.station_file.proofs.InForms.{read_sound}
use Rattle.station_laws.proofs.Stations.{loads_back, same}

-- an answer that is no refusal came by both tests
wrote_parts : (a b : Bool) (f n : ℕ) (text out : List ℕ)
    → (cond a (cond b (record { reply = wrote (length text); out = overlay text out }) (write.unwritten 25 out)) (write.unwritten f out)).reply ≡ wrote n
    → (a ≡ true) × ((b ≡ true) × (length text ≡ n))
wrote_parts true true f n text out e = (refl, (refl, (cc)))
wrote_parts true false f n text out e = absurd (let z : ◌≡◌ {A = ℕ} 0 1 = cc in omega arith)
wrote_parts false b f n text out e = absurd (let z : ◌≡◌ {A = ℕ} 0 1 = cc in omega arith)

-- what was read, where the reader does not refuse
record Parts (r : Reading Station) (b : Buffers) (words entries count : ℕ) : Type 0 where
  s : Station
  rest : List ℕ
  is : r ≡ got s rest
  room : fits_in s b ≡ true
  rom : length s.rom ≡ words
  sheet : length s.sheet / 2 ≡ entries
  inputs : length s.inputs / record_bytes ≡ count

filled_parts : (c : Bool) (s : Station) (rest : List ℕ) (b : Buffers) (words entries count : ℕ) → fits_in s b ≡ c
    → (cond c (record { reply = station (length s.rom) (length s.sheet / 2) (length s.inputs / record_bytes); buffers = filled s b }) (read.unread 25 b)).reply
    ≡ station words entries count → Parts (got s rest) b words entries count
filled_parts true s rest b words entries count f e =
    record { s = s; rest = rest; is = refl; room = f; rom = (cc); sheet = (cc); inputs = (cc) }
filled_parts false s rest b words entries count f e = absurd (let z : ◌≡◌ {A = ℕ} 0 1 = cc in omega arith)

parts : (r : Reading Station) (b : Buffers) (words entries count : ℕ) → (placed r b).reply ≡ station words entries count → Parts r b words entries count
parts (got s rest) b words entries count e = filled_parts (fits_in s b) s rest b words entries count refl e
parts (refused n) b words entries count e = absurd (let z : ◌≡◌ {A = ℕ} 0 1 = cc in omega arith)

wrote_it : (s : Station) (out : List ℕ) → station_refusal form2 s ≡ 0 → length (file_of s) ≤ length out
    → write_of s out ≡ record { reply = wrote (length (file_of s)); out = overlay (file_of s) out }
unfolding write_of
wrote_it s out e h = rw (e, le-leb (length (file_of s)) (length out) h)

written : (s : Station) (out : List ℕ) (n : ℕ) (b : Buffers) → below (256 ^ 2) s.rom
    → (write_of s out).reply ≡ wrote n → fits_in s b ≡ true
    → read_of (take n (write_of s out).out) b
    ≡ record { reply = station (length s.rom) (length s.sheet / 2) (records s); buffers = filled s b }
unfolding write_of
written s out n b w e f =
    let text : List ℕ = file_of s in
    let p = wrote_parts (eqb (station_refusal form2 s) 0) (leb (length text) (length out)) (station_refusal form2 s) n text out e in
    let good : station_refusal form2 s ≡ 0 = eqb-true (station_refusal form2 s) 0 p.0 in
    rw (p.0, p.1.0, ← p.1.1, overlay_front text out) (read_so text s [] b (loads_back s good w) f)

-- the station that was read stands at the front of the buffers
in_front : (s : Station) (b : Buffers) (words entries count : ℕ) → length s.rom ≡ words → length s.sheet / 2 ≡ entries
    → length s.inputs / record_bytes ≡ count → Sound form2 s → front words entries count (filled s b) ≡ s
in_front s b words entries count r h i g =
    let levels : 2 * entries ≡ length s.sheet = omega (arith, (sheet_entries form2 s g).whole) in
    let bytes : record_bytes * count ≡ length s.inputs = omega (arith, whole_records form2 s g) in
    rw (← r, levels, bytes, overlay_front s.rom b.rom, overlay_front s.sheet b.sheet, overlay_front s.inputs b.inputs)

read_back : (xs : List ℕ) (b : Buffers) (words entries count : ℕ) (out : List ℕ) → below 256 xs
    → (read_of xs b).reply ≡ station words entries count → form_for xs ≡ lowest_form (front words entries count (read_of xs b).buffers)
    → length xs ≤ length out
    → write_of (front words entries count (read_of xs b).buffers) out
    ≡ record { reply = wrote (length xs); out = overlay xs out }
unfolding read_of
read_back xs b words entries count out small e q h =
    let p = parts (load_of xs) b words entries count e in
    let s : Station = p.s in
    let sound = read_sound xs s p.rest p.is in
    let there : front words entries count (read_of xs b).buffers ≡ s =
    ap (λ (x : Read). front words entries count x.buffers) (read_so xs s p.rest b p.is p.room)
    ∙ in_front s b words entries count p.rom p.sheet p.inputs sound
    in
    let file : file_of s ≡ xs = same xs s p.rest p.is small (q ∙ ap lowest_form there) in
    ap (λ (x : Station). write_of x out) there
    ∙ wrote_it s out (unrefused form2 s sound) (rw file h)
    ∙ ap (λ (x : List ℕ). record { reply = wrote (length x); out = overlay x out }) file

pub read_write : ReadWrite
read_write = record { written = written; read = read_back }
