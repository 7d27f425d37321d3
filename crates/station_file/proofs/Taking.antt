-- What a reading takes off the front of a list, beside the text that is written for what it read: as many bytes, and the same
-- if they are bytes.
-- Assumes nothing.
use mathlib.Core.Path.{◌≡◌, ◌∙◌, ap, ap₂, refl, sym}
use mathlib.Core.Bool.{true}
use mathlib.Core.List.{List, [], ◌∷◌, ◌++◌, append_assoc}
use Prim.Native.Nat.{ℕ, suc, ◌<◌}
use borrow.Author.Tests.{ltb-true}
use lib.Dec.{ltb}
use lib.ListN.{length, length-append}
use Rattle.laws.proofs.Booleans.{both}
use Rattle.station_file.specs.Write.{every_at, below}

-- `below`, element by element
abbrev pub Bytes : List ℕ → Type 0
Bytes [] = Unit
Bytes (x ∷ xs) = (x < 256) × Bytes xs

bytes_from : (k : ℕ) (xs : List ℕ) → every_at (λ (j : ℕ) (x : ℕ). ltb x 256) k xs ≡ true → Bytes xs
bytes_from k [] e = tt
bytes_from k (x ∷ xs) e =
    let p = both (ltb x 256) (every_at (λ (j : ℕ) (y : ℕ). ltb y 256) (suc k) xs) e in
    (ltb-true x 256 p.0, bytes_from (suc k) xs p.1)

pub bytes_below : (xs : List ℕ) → below 256 xs → Bytes xs
bytes_below xs e = bytes_from 0 xs e

bytes_before : (xs ys : List ℕ) → Bytes (xs ++ ys) → Bytes xs
bytes_before [] ys b = tt
bytes_before (x ∷ xs) ys b = (b.0, bytes_before xs ys b.1)

bytes_after : (xs ys : List ℕ) → Bytes (xs ++ ys) → Bytes ys
bytes_after [] ys b = b
bytes_after (x ∷ xs) ys b = bytes_after xs ys b.1

pub record Took (xs text rest : List ℕ) : Type 0 where
  pub bytes : List ℕ
  pub split : xs ≡ bytes ++ rest
  pub size : length bytes ≡ length text
  pub same : Bytes bytes → bytes ≡ text

pub took_none : (xs : List ℕ) → Took xs [] xs
took_none xs = record { bytes = []; split = refl; size = refl; same = λ b. refl }

-- one reading after another
pub took_then : {xs t ys u zs : List ℕ} → Took xs t ys → Took ys u zs → Took xs (t ++ u) zs
took_then {xs} {t} {ys} {u} {zs} a b = record {
  bytes = a.bytes ++ b.bytes;
  split = a.split ∙ ap (λ (l : List ℕ). a.bytes ++ l) b.split ∙ sym (append_assoc a.bytes b.bytes zs);
  size = simp (length-append, a.size, b.size);
  same = λ z. ap₂ ◌++◌ (a.same (bytes_before a.bytes b.bytes z)) (b.same (bytes_after a.bytes b.bytes z));
}
