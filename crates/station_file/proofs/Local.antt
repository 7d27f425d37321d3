-- The test of a sheet's byte looks at the byte before it and no further, so the bytes after a part of a list do not change the part's
-- tests. So a sheet section is one of bytes with a fixed test.
-- Assumes nothing.
use mathlib.Core.Path.{◌≡◌, ◌∙◌, refl, sym, ap, ap₂}
use mathlib.Core.Bool.{Bool, true, false, cond}
use mathlib.Core.List.{List, [], ◌∷◌, ◌++◌}
use Prim.Native.Nat.{ℕ, zero, suc, ◌+◌, ◌*◌, ◌<◌, ◌≤◌}
use native.Mathlib.Omega.{arith}
use lib.ListN.{length, drop, get_or, get_or-append}
use Rattle.sheet.specs.Entry.{proper}
use Rattle.station_file.specs.Reading.{Reading, got, refused, and_then, tested, byte, number, fields}
use Rattle.station_file.specs.Station.{Form, sheet_count, most_level, entry_to, entry_byte, sheet_section}
use Rattle.station_file.specs.Write.{every_at}
use Rattle.station_file.specs.Places.{byte_field}
use Rattle.station_file.proofs.Counted.{bytes, section}
use Rattle.station_file.proofs.Readings.{not_got, got_then, got_tested}

-- a byte that was tested, and more after it
abbrev pushed : (List ℕ → Reading (List ℕ)) → Bool → ℕ → List ℕ → Reading (List ℕ)
pushed more p x xs =
    and_then (cond p (got x xs) (refused 23)) (λ (v : ℕ) (rest : List ℕ). and_then (more rest) (λ (vs : List ℕ) (last : List ℕ). got (v ∷ vs) last))

pushed_same : (m₁ m₂ : List ℕ → Reading (List ℕ)) (p : Bool) (x : ℕ) (xs : List ℕ) → m₁ xs ≡ m₂ xs → pushed m₁ p x xs ≡ pushed m₂ p x xs
pushed_same m₁ m₂ true x xs e = rw e refl
pushed_same m₁ m₂ false x xs e = refl

-- two tests that agree at the indices below n
module _ (f g : ℕ → ℕ → Bool) (n : ℕ) (h : (i b : ℕ) → i < n → f i b ≡ g i b) where
  every_agree : (k : ℕ) (xs : List ℕ) → k + length xs ≤ n → every_at f k xs ≡ every_at g k xs
  every_agree k [] l = refl
  every_agree k (x ∷ xs) l = rw (h k x (omega arith), every_agree (suc k) xs (omega arith)) refl

  pub fields_agree : (k m : ℕ) (xs : List ℕ) → k + m ≤ n → fields (byte_field f) k m xs ≡ fields (byte_field g) k m xs
  fields_agree k zero xs l = refl
  fields_agree k (suc m) [] l = refl
  fields_agree k (suc m) (x ∷ xs) l =
      ap (λ (p : Bool). pushed (fields (byte_field f) (suc k) m) p x xs) (h k x (omega arith))
      ∙ pushed_same (fields (byte_field f) (suc k) m) (fields (byte_field g) (suc k) m) (g k x) x xs (fields_agree (suc k) m xs (omega arith))

-- the byte before an index, in a list and in a longer one
before_same : (xs ys : List ℕ) (i : ℕ) → i < suc (length xs) → get_or (0 ∷ xs) i 0 ≡ get_or (0 ∷ (xs ++ ys)) i 0
before_same xs ys zero h = refl
before_same xs ys (suc i) h = sym (get_or-append xs ys 0 i (omega arith))

module _ (form : Form) (xs ys : List ℕ) where
  pub entry_same : (i b : ℕ) → i < suc (length xs) → entry_byte form xs i b ≡ entry_byte form (xs ++ ys) i b
  entry_same i b h = ap (λ (before : ℕ). proper most_level (entry_to form before i b)) (before_same xs ys i h)

  pub entries_same : every_at (entry_byte form xs) 0 xs ≡ every_at (entry_byte form (xs ++ ys)) 0 xs
  entries_same = every_agree (entry_byte form xs) (entry_byte form (xs ++ ys)) (suc (length xs)) entry_same 0 xs (omega arith)

-- what a number of two bytes leaves
pub after_number : (xs : List ℕ) (n : ℕ) (rest : List ℕ) → number 2 xs ≡ got n rest → rest ≡ drop 2 xs
unfolding number
after_number [] n rest e = absurd (not_got 21 n rest e)
after_number (a ∷ []) n rest e = absurd (not_got 21 n rest e)
after_number (a ∷ b ∷ xs) n rest e = cc

-- bytes that were read
fields_split : (ok : ℕ → ℕ → Bool) (k n : ℕ) (xs vs rest : List ℕ) → fields (byte_field ok) k n xs ≡ got vs rest → xs ≡ vs ++ rest
fields_split ok k zero xs vs rest e =
    let p : [] ≡ vs = cc in
    let q : xs ≡ rest = cc in
    rw (← p) q
fields_split ok k (suc n) [] vs rest e = absurd (not_got 21 vs rest e)
fields_split ok k (suc n) (x ∷ xs) vs rest e =
    let s = got_then (byte_field ok k (x ∷ xs)) _ vs rest e in
    let b = (got_tested (ok k) 23 (byte (x ∷ xs)) s.value s.left s.first).0 in
    let t = got_then (fields (byte_field ok) (suc k) n s.left) _ vs rest s.then in
    let r : s.left ≡ t.value ++ t.left = fields_split ok (suc k) n s.left t.value t.left t.first in
    let end : got (s.value ∷ t.value) t.left ≡ got vs rest = t.then in
    let v : x ≡ s.value = cc in
    let l : xs ≡ s.left = cc in
    let p : s.value ∷ t.value ≡ vs = cc in
    let q : t.left ≡ rest = cc in
    ap₂ ◌∷◌ v (l ∙ r) ∙ ap₂ ◌++◌ p q

module _ (form : Form) (words : ℕ) where
  abbrev pub entry_bytes_of : ℕ → ℕ
  entry_bytes_of n = form.entry_bytes * n

  -- a sheet section, with the test fixed
  pub sheet_section_lem : (xs : List ℕ) → sheet_section form words xs ≡ section (bytes (entry_byte form (drop 2 xs))) 2 (sheet_count words) entry_bytes_of xs
  unfolding sheet_section number
  sheet_section_lem [] = refl
  sheet_section_lem (a ∷ []) = refl
  sheet_section_lem (a ∷ b ∷ xs) = let n : ℕ = (0 * 256 + a) * 256 + b in by_test (sheet_count words n) n
    where
      by_test : (p : Bool) (n : ℕ)
          → and_then (cond p (got n xs) (refused 22)) (λ (m : ℕ) (rest : List ℕ). fields (byte_field (entry_byte form rest)) 0 (entry_bytes_of m) rest)
          ≡ and_then (cond p (got n xs) (refused 22)) (λ (m : ℕ) (rest : List ℕ). fields (byte_field (entry_byte form xs)) 0 (entry_bytes_of m) rest)
      by_test true n = refl
      by_test false n = refl

  -- the sheet stands after its count
  pub sheet_split : (xs vs rest : List ℕ) → sheet_section form words xs ≡ got vs rest → drop 2 xs ≡ vs ++ rest
  sheet_split xs vs rest e =
      let s = got_then (tested (sheet_count words) 22 (number 2 xs)) _ vs rest (sym (sheet_section_lem xs) ∙ e) in
      let t = got_tested (sheet_count words) 22 (number 2 xs) s.value s.left s.first in
      sym (after_number xs s.value s.left t.0)
      ∙ fields_split (entry_byte form (drop 2 xs)) 0 (entry_bytes_of s.value) s.left vs rest s.then
