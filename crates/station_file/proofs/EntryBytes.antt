-- The test of a sheet's byte, by the form and the byte before it.
-- Assumes nothing.
use mathlib.Core.Path.{◌≡◌, ◌∙◌, refl}
use mathlib.Core.Bool.{Bool, true, false, ◌&&◌, false≢true}
use mathlib.Core.List.{List, [], ◌∷◌, ◌++◌, append_assoc}
use Prim.Native.Nat.{ℕ, suc, ◌%◌}
use native.Mathlib.Omega.{arith}
use borrow.Author.Tests.{ne_eqb}
use lib.ListN.{length, get_or, length-append}
use lib.Seq.{get_or-append_seam}
use Rattle.std.proofs.lemmas.Bool.Decides.{nat_tests}
use Rattle.std.specs.List.{list_all}
use Rattle.sheet.specs.Entry.{single, proper, reached}
use Rattle.station_file.specs.Station.{Form, form1, form2, most_level, entry_to, entry_byte}
use Rattle.station_file.specs.Write.{every_at}
use Rattle.station_file.specs.Places.{proper_ranges}

-- the first byte of an entry, and the second
module _ (form : Form) (before k b : ℕ) where
  pub lower : k % form.entry_bytes ≡ 0 → entry_to form before k b ≡ single b
  lower e = rw e refl

  pub upper : (k % form.entry_bytes ≡ 0 → ⊥) → entry_to form before k b ≡ record { lowest = before; highest = b }
  upper n = rw (ne_eqb (k % form.entry_bytes) 0 n) refl

-- a sheet of form 1
pub levels_are : (sheet : List ℕ) (k : ℕ) (xs : List ℕ) → list_all (λ (b : ℕ). proper most_level (single b)) xs ≡ every_at (entry_byte form1 sheet) k xs
levels_are sheet k [] = refl
levels_are sheet k (x ∷ xs) =
    let first : k % 1 ≡ 0 = omega arith in
    rw (lower form1 (get_or (0 ∷ sheet) k 0) k x first, levels_are sheet (suc k) xs) refl

-- the lowest level of a range is a level
halves : (l h : ℕ) → proper most_level (record { lowest = l; highest = h }) ≡ true → proper most_level (single l) ≡ true
unfolding proper reached
halves l h e = grind (arith, nat_tests)

both_halves : (p q r : Bool) → (q ≡ true → p ≡ true) → (q && r) ≡ (p && (q && r))
both_halves true q r h = refl
both_halves false true r h = absurd (false≢true (h refl))
both_halves false false r h = refl

and_true : (b : Bool) → b ≡ (b && true)
and_true true = refl
and_true false = refl

-- a sheet of form 2
ranges : (front xs : List ℕ) → length front % 2 ≡ 0 → proper_ranges xs ≡ every_at (entry_byte form2 (front ++ xs)) (length front) xs
ranges front [] e = refl
ranges front (l ∷ []) e =
    rw (lower form2 (get_or (0 ∷ (front ++ (l ∷ []))) (length front) 0) (length front) l e) (and_true (proper most_level (single l)))
ranges front (l ∷ h ∷ xs) e =
    let sheet : List ℕ = front ++ (l ∷ h ∷ xs) in
    let k : ℕ = length front in
    let odd : suc k % 2 ≡ 0 → ⊥ = λ z. omega arith in
    let before : get_or (0 ∷ sheet) (suc k) 0 ≡ l = get_or-append_seam front l (h ∷ xs) 0 in
    let longer : (front ++ (l ∷ h ∷ [])) ++ xs ≡ sheet = append_assoc front (l ∷ h ∷ []) xs in
    let more : suc (suc k) ≡ length (front ++ (l ∷ h ∷ [])) = omega (arith, length-append front (l ∷ h ∷ [])) in
    let rest : proper_ranges xs ≡ every_at (entry_byte form2 sheet) (suc (suc k)) xs =
    ranges (front ++ (l ∷ h ∷ [])) xs (omega arith) ∙ rw (longer, ← more) refl
    in
    rw (
      lower form2 (get_or (0 ∷ sheet) k 0) k l e,
      upper form2 (get_or (0 ∷ sheet) (suc k) 0) (suc k) h odd,
      before,
      ← rest,
    ) (both_halves (proper most_level (single l)) (proper most_level (record { lowest = l; highest = h })) (proper_ranges xs) (halves l h))

pub ranges_are : (xs : List ℕ) → proper_ranges xs ≡ every_at (entry_byte form2 xs) 0 xs
ranges_are xs = ranges [] xs refl
