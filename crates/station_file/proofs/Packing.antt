-- A sheet with two bytes an entry, as in memory and in form 2, and with one, as in form 1.
-- Assumes nothing.
use mathlib.Core.Path.{◌≡◌, ◌∙◌, refl, sym, ap, ap₂}
use mathlib.Core.Bool.{true}
use mathlib.Core.List.{List, [], ◌∷◌}
use Prim.Native.Nat.{ℕ, zero, suc, ◌*◌, ◌/◌, ◌%◌, ◌<◌, ◌≤◌}
use native.Mathlib.Nat.{le_refl, div-one}
use native.Mathlib.Omega.{arith}
use borrow.Author.Tests.{eq-eqb, eqb-true}
use lib.Dec.{eqb}
use lib.ListN.{length, get_or}
use Rattle.std.proofs.lemmas.List.{ext_get_or}
use Rattle.laws.proofs.Booleans.{both}
use Rattle.station_file.specs.Forms.{doubled, lowest_of, all_equal, entries_of}
use Rattle.station_file.specs.Places.{form_of}
use Rattle.station_file.specs.declared.forms.Form.{Form}
use Rattle.station_file.specs.declared.forms.Form.TheVariants.{One, Two}

-- the lowest levels
pub length_lowest : (s : List ℕ) → length (lowest_of s) ≡ length s / 2
length_lowest [] = refl
length_lowest (l ∷ []) = refl
length_lowest (l ∷ h ∷ s) = omega (arith, length_lowest s)

twice_suc : (i : ℕ) → 2 * suc i ≡ suc (suc (2 * i))
twice_suc i = omega arith

pub slice_index_lowest : (s : List ℕ) (i : ℕ) → i < length s / 2 → get_or (lowest_of s) i 0 ≡ get_or s (2 * i) 0
slice_index_lowest [] i h = refl
slice_index_lowest (l ∷ []) i h = absurd (omega arith)
slice_index_lowest (l ∷ h ∷ s) zero p = refl
slice_index_lowest (l ∷ h ∷ s) (suc i) p = rw (twice_suc i) (slice_index_lowest s i (omega arith))

-- each byte twice
pub length_doubled : (xs : List ℕ) → length (doubled xs) ≡ 2 * length xs
length_doubled [] = refl
length_doubled (x ∷ xs) = omega (arith, length_doubled xs)

pub slice_index_doubled : (p : List ℕ) (i : ℕ) → (get_or (doubled p) (2 * i) 0 ≡ get_or p i 0) × (get_or (doubled p) (suc (2 * i)) 0 ≡ get_or p i 0)
slice_index_doubled [] i = (refl, refl)
slice_index_doubled (b ∷ p) zero = (refl, refl)
slice_index_doubled (b ∷ p) (suc i) = rw (twice_suc i) (slice_index_doubled p i)

-- the one undoes the other
pub lowest_doubled : (p : List ℕ) → lowest_of (doubled p) ≡ p
lowest_doubled [] = refl
lowest_doubled (b ∷ p) = ap (λ (l : List ℕ). b ∷ l) (lowest_doubled p)

pub doubled_lowest : (s : List ℕ) → length s % 2 ≡ 0 → all_equal s ≡ true → doubled (lowest_of s) ≡ s
doubled_lowest [] e q = refl
doubled_lowest (l ∷ []) e q = absurd (omega arith)
doubled_lowest (l ∷ h ∷ s) e q =
    let p = both (eqb l h) (all_equal s) q in
    ap₂ (λ (x : ℕ) (xs : List ℕ). l ∷ x ∷ xs) (eqb-true l h p.0) (doubled_lowest s (omega arith) p.1)

pub equal_doubled : (p : List ℕ) → all_equal (doubled p) ≡ true
equal_doubled [] = refl
equal_doubled (b ∷ p) = rw (eq-eqb b b refl) (equal_doubled p)

-- each byte by its index
pub lowest_by_index : (s xs : List ℕ) → length xs ≡ length s / 2 → ((k : ℕ) → k < length xs → get_or xs k 0 ≡ get_or s (2 * k) 0) → xs ≡ lowest_of s
lowest_by_index s xs n h =
    ext_get_or 0 xs (lowest_of s) (n ∙ sym (length_lowest s)) (λ i l. h i l ∙ sym (slice_index_lowest s i (omega arith)))

half_of : (p : List ℕ) (i : ℕ) → get_or (doubled p) i 0 ≡ get_or p (i / 2) 0
half_of [] i = refl
half_of (b ∷ p) zero = refl
half_of (b ∷ p) (suc zero) = refl
half_of (b ∷ p) (suc (suc i)) = let e : suc (suc i) / 2 ≡ suc (i / 2) = omega arith in rw e (half_of p i)

pub doubled_by_index : (p xs : List ℕ) → length xs ≡ 2 * length p → ((k : ℕ) → k < length xs → get_or xs k 0 ≡ get_or p (k / 2) 0) → xs ≡ doubled p
doubled_by_index p xs n h = ext_get_or 0 xs (doubled p) (n ∙ sym (length_doubled p)) (λ i l. h i l ∙ sym (half_of p i))

-- what a sheet has in a form
pub packed_short : (form : Form) (sheet : List ℕ) → length (entries_of (form_of form) sheet) ≤ length sheet
packed_short One sheet = omega (arith, length_lowest sheet)
packed_short Two sheet = le_refl (length sheet)

-- and the count of its entries
pub packed_count : (form : Form) (sheet : List ℕ) → length (entries_of (form_of form) sheet) / (form_of form).entry_bytes ≡ length sheet / 2
packed_count One sheet = div-one (length (lowest_of sheet)) ∙ length_lowest sheet
packed_count Two sheet = refl
