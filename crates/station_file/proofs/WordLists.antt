-- The words of a ROM section, and their bytes.
-- Assumes nothing.
use mathlib.Core.Path.{◌≡◌, ◌∙◌, refl, sym, ap}
use mathlib.Core.List.{List, [], ◌∷◌, ◌++◌}
use Prim.Native.Nat.{ℕ, zero, suc, ◌+◌, ◌*◌, ◌/◌, ◌<◌, ◌≤◌}
use native.Mathlib.Numerals.{add-one}
use native.Mathlib.Omega.{arith}
use lib.ListN.{length, take, drop, get_or, length-drop}
use lib.Seq.{drop-drop, length-take-le, take-suc}
use Rattle.std.proofs.lemmas.List.{ext_get_or}
use Rattle.station_file.specs.Reading.{got, refused, fields}
use Rattle.station_file.specs.Station.{word_field}
use Rattle.station_file.specs.Places.{words, words_of}
use Rattle.station_file.specs.Write.{bytes_of, word_bytes}
use Rattle.station_file.proofs.TwoBytes.{short, long}

pub length_words : (n : ℕ) (xs : List ℕ) → length (words n xs) ≡ n
length_words zero xs = refl
length_words (suc n) xs = ap suc (length_words n (drop 2 xs))

-- enough bytes for so many words
pub enough : (k n : ℕ) (xs : List ℕ) → 2 * n ≤ length xs → fields word_field k n xs ≡ got (words n xs) (drop (2 * n) xs)
enough k zero xs h = refl
enough k (suc n) xs h =
    let e = enough (suc k) n (drop 2 xs) (omega (arith, length-drop 2 xs)) in
    let a : 2 + 2 * n ≡ 2 * suc n = omega arith in
    rw (long xs (omega arith), e, drop-drop (2 * n) 2 xs, a) refl

pub too_few : (k n : ℕ) (xs : List ℕ) → length xs < 2 * n → fields word_field k n xs ≡ refused 21
too_few k zero xs h = absurd (omega arith)
too_few k (suc n) [] h = rw (short [] (omega arith)) refl
too_few k (suc n) (a ∷ []) h = rw (short (a ∷ []) (omega arith)) refl
too_few k (suc n) (a ∷ b ∷ xs) h = rw (long (a ∷ b ∷ xs) (omega arith), too_few (suc k) n xs (omega arith)) refl

-- the words of so many bytes
words_take : (n : ℕ) (xs : List ℕ) → 2 * n ≤ length xs → words n (take (2 * n) xs) ≡ words n xs
words_take zero xs h = refl
words_take (suc n) [] h = absurd (omega arith)
words_take (suc n) (a ∷ []) h = absurd (omega arith)
words_take (suc n) (a ∷ b ∷ xs) h =
    let two : 2 * suc n ≡ suc (suc (2 * n)) = omega arith in
    rw two (ap (λ (ws : List ℕ). (a * 256 + b) ∷ ws) (words_take n xs (omega arith)))

pub words_of_take : (n : ℕ) (xs : List ℕ) → 2 * n ≤ length xs → words_of (take (2 * n) xs) ≡ words n xs
words_of_take n xs h =
    let half : length (take (2 * n) xs) / 2 ≡ n = omega (arith, length-take-le (2 * n) xs h) in
    rw half (words_take n xs h)

-- a word by its index
get_or-words : (n i : ℕ) (xs : List ℕ) → i < n → 2 * n ≤ length xs → get_or (words n xs) i 0 ≡ get_or xs (2 * i) 0 * 256 + get_or xs (suc (2 * i)) 0
get_or-words zero i xs h l = absurd (omega arith)
get_or-words (suc n) i [] h l = absurd (omega arith)
get_or-words (suc n) i (a ∷ []) h l = absurd (omega arith)
get_or-words (suc n) zero (a ∷ b ∷ xs) h l = refl
get_or-words (suc n) (suc i) (a ∷ b ∷ xs) h l =
    let two : 2 * suc i ≡ suc (suc (2 * i)) = omega arith in rw two (get_or-words n i xs (omega arith) (omega arith))

-- the same, each word by its index
pub words_by_index : (xs ws : List ℕ) → length ws ≡ length xs / 2
    → ((k : ℕ) → k < length ws → get_or ws k 0 ≡ get_or xs (2 * k) 0 * 256 + get_or xs (2 * k + 1) 0) → ws ≡ words_of xs
words_by_index xs ws n h =
    ext_get_or 0 ws (words_of xs) (n ∙ sym (length_words (length xs / 2) xs))
    (λ i l. h i l ∙ rw add-one (sym (get_or-words (length xs / 2) i xs (omega arith) (omega arith))))

-- and the bytes of words
pub length_word_bytes : (ws : List ℕ) → length (word_bytes ws) ≡ 2 * length ws
length_word_bytes [] = refl
length_word_bytes (w ∷ ws) = omega (arith, length_word_bytes ws)

word_bytes_append : (vs ws : List ℕ) → word_bytes (vs ++ ws) ≡ word_bytes vs ++ word_bytes ws
word_bytes_append [] ws = refl
word_bytes_append (v ∷ vs) ws = ap (λ (l : List ℕ). bytes_of 2 v ++ l) (word_bytes_append vs ws)

-- one word more
pub word_bytes_suc : (ws : List ℕ) (i : ℕ) → i < length ws → word_bytes (take (i + 1) ws) ≡ word_bytes (take i ws) ++ bytes_of 2 (get_or ws i 0)
word_bytes_suc ws i h = rw add-one (ap word_bytes (take-suc ws i 0 h) ∙ word_bytes_append (take i ws) (get_or ws i 0 ∷ []))
