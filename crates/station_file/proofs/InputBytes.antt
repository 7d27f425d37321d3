-- The test of the bytes of input records.
-- Assumes nothing.
use mathlib.Core.Path.{◌≡◌, ◌∙◌, refl, sym, ap}
use mathlib.Core.Bool.{Bool, true, false, ◌&&◌}
use mathlib.Core.List.{List, [], ◌∷◌, ◌++◌}
use Prim.Native.Nat.{ℕ, suc, ◌+◌, ◌%◌, ◌<◌, ◌≤◌}
use native.Mathlib.Omega.{arith}
use borrow.Author.Tests.{ne_eqb}
use lib.Dec.{ltb}
use lib.ListN.{length, take, drop, get_or, take-append-drop, drop_of_length-le}
use lib.Seq.{drop-cons, length-take-le}
use native.Mathlib.Nat.{add-zero}
use Rattle.std.specs.List.{list_all}
use Rattle.station_file.specs.Station.{input_byte}
use Rattle.station_file.specs.Write.{every_at}

abbrev nibble : ℕ → Bool
nibble b = ltb b 16

nibble_at : (k b : ℕ) → k < 10 → input_byte k b ≡ nibble b
nibble_at k b h = let c : k % 11 ≡ 10 → ⊥ = λ e. omega arith in rw (ne_eqb (k % 11) 10 c) refl

-- bytes before a release
nibbles_from : (k : ℕ) (xs : List ℕ) → k + length xs ≤ 10 → list_all nibble xs ≡ every_at input_byte k xs
nibbles_from k [] h = refl
nibbles_from k (x ∷ xs) h =
    rw (nibble_at k x (omega arith), nibbles_from (suc k) xs (omega arith)) refl

pub nibbles_are : (xs : List ℕ) → length xs ≤ 10 → list_all nibble xs ≡ every_at input_byte 0 xs
nibbles_are xs h = nibbles_from 0 xs (omega arith)

-- a test of one list after another
pub every_append : (ok : ℕ → ℕ → Bool) (k : ℕ) (xs ys : List ℕ) → every_at ok k (xs ++ ys) ≡ (every_at ok k xs && every_at ok (k + length xs) ys)
every_append ok k [] ys = rw (add-zero k) refl
every_append ok k (x ∷ xs) ys =
    let e : suc k + length xs ≡ k + suc (length xs) = omega arith in
    rw (every_append ok (suc k) xs ys, e) (assoc (ok k x) (every_at ok (suc k) xs) (every_at ok (k + suc (length xs)) ys))
  where
    assoc : (a b c : Bool) → (a && (b && c)) ≡ ((a && b) && c)
    assoc true b c = refl
    assoc false b c = refl

-- a whole record: ten nibbles and a release
release_at : (b : ℕ) → every_at input_byte 10 (b ∷ []) ≡ (ltb b 2 && true)
release_at b = refl

and_true : (b : Bool) → (b && true) ≡ b
and_true true = refl
and_true false = refl

pub record_is : (xs : List ℕ) → length xs ≡ 11 → every_at input_byte 0 xs ≡ (list_all nibble (take 10 xs) && ltb (get_or xs 10 0) 2)
record_is xs h =
    let front : length (take 10 xs) ≡ 10 = length-take-le 10 xs (omega arith) in
    let last : drop 10 xs ≡ get_or xs 10 0 ∷ [] = drop-cons xs 10 0 (omega arith) ∙ ap (λ (l : List ℕ). get_or xs 10 0 ∷ l) (drop_of_length-le xs {i = 11} (omega arith)) in
    ap (every_at input_byte 0) (sym (take-append-drop 10 xs))
    ∙ every_append input_byte 0 (take 10 xs) (drop 10 xs)
    ∙ rw (front, last, ← nibbles_are (take 10 xs) (omega arith)) (ap (λ (b : Bool). list_all nibble (take 10 xs) && b) (and_true (ltb (get_or xs 10 0) 2)))

-- the records after one
shifted : (k : ℕ) (xs : List ℕ) → every_at input_byte (k + 11) xs ≡ every_at input_byte k xs
shifted k [] = refl
shifted k (x ∷ xs) =
    let e : (k + 11) % 11 ≡ k % 11 = omega arith in
    let n : suc (k + 11) ≡ suc k + 11 = omega arith in
    rw (e, n, shifted (suc k) xs) refl

pub records_are : (xs : List ℕ) → 11 ≤ length xs → every_at input_byte 0 xs ≡ (every_at input_byte 0 (take 11 xs) && every_at input_byte 0 (drop 11 xs))
records_are xs h =
    let front : length (take 11 xs) ≡ 11 = length-take-le 11 xs h in
    ap (every_at input_byte 0) (sym (take-append-drop 11 xs))
    ∙ every_append input_byte 0 (take 11 xs) (drop 11 xs)
    ∙ ap (λ (b : Bool). every_at input_byte 0 (take 11 xs) && b)
    (ap (λ (n : ℕ). every_at input_byte (0 + n) (drop 11 xs)) front ∙ shifted 0 (drop 11 xs))
