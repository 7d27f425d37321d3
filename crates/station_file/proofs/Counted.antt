-- A section that was read, a count and so many values: the count passes its test, each value its own, and what was taken is what
-- is written for them. Stated once, over a field and how its values are written.
-- Assumes nothing.
use mathlib.Core.Path.{◌≡◌, ap, refl, subst₂}
use mathlib.Core.Bool.{Bool, true, and-eq-true_iff}
use mathlib.Core.List.{List, [], ◌∷◌, ◌++◌}
use Prim.Native.Nat.{ℕ, zero, suc}
use lib.ListN.{length}
use Rattle.station_file.specs.Reading.{Reading, got, and_then, tested, byte, number, fields}
use Rattle.station_file.specs.Station.{word_field}
use Rattle.station_file.specs.Write.{bytes_of, word_bytes, every_at}
use Rattle.station_file.specs.Places.{byte_field}
use Rattle.station_file.proofs.Digits.{number_took}
use Rattle.station_file.proofs.Readings.{not_got, got_then, got_tested}
use Rattle.station_file.proofs.Taking.{Took, took_none, took_then}

-- a field, and how one value and many are written
pub record Codec : Type 0 where
  pub field : ℕ → List ℕ → Reading ℕ
  pub one : ℕ → List ℕ
  pub many : List ℕ → List ℕ
  pub none : many [] ≡ []
  pub more : (v : ℕ) (vs : List ℕ) → many (v ∷ vs) ≡ one v ++ many vs

-- words of two bytes, and bytes that pass a test
abbrev pub words : Codec
words = record { field = word_field; one = bytes_of 2; many = word_bytes; none = refl; more = λ v vs. refl }

abbrev pub bytes : (ℕ → ℕ → Bool) → Codec
bytes ok = record { field = byte_field ok; one = λ (v : ℕ). v ∷ []; many = λ (vs : List ℕ). vs; none = refl; more = λ v vs. refl }

abbrev pub section : Codec → ℕ → (ℕ → Bool) → (ℕ → ℕ) → List ℕ → Reading (List ℕ)
section c width test size xs =
    and_then (tested test 22 (number width xs)) (λ (n : ℕ) (rest : List ℕ). fields c.field 0 (size n) rest)

-- each value that was read passes a test
abbrev pub Passing : Codec → (ℕ → ℕ → Bool) → Type 0
Passing c ok = (k : ℕ) (xs : List ℕ) (v : ℕ) (rest : List ℕ) → c.field k xs ≡ got v rest → (ok k v ≡ true) × Took xs (c.one v) rest

pub any_words : Passing words (λ (k : ℕ) (v : ℕ). true)
any_words k xs v rest e = (refl, number_took 2 xs v rest e)

byte_took : (xs : List ℕ) (v : ℕ) (rest : List ℕ) → byte xs ≡ got v rest → Took xs (v ∷ []) rest
byte_took [] v rest e = absurd (not_got 21 v rest e)
byte_took (b ∷ xs) v rest e =
    let q : b ∷ xs ≡ v ∷ rest = cc in
    record { bytes = v ∷ []; split = q; size = refl; same = λ z. refl }

pub tested_bytes : (ok : ℕ → ℕ → Bool) → Passing (bytes ok) ok
tested_bytes ok k xs v rest e = let h = got_tested (ok k) 23 (byte xs) v rest e in (h.1, byte_took xs v rest h.0)

module _ (c : Codec) (ok : ℕ → ℕ → Bool) (law : Passing c ok) where
  record Values (k n : ℕ) (xs vs rest : List ℕ) : Type 0 where
    count : length vs ≡ n
    good : every_at ok k vs ≡ true
    took : Took xs (c.many vs) rest

  values : (k n : ℕ) (xs vs rest : List ℕ) → fields c.field k n xs ≡ got vs rest → Values k n xs vs rest
  values k zero xs vs rest e =
      let p : [] ≡ vs = cc in
      let q : xs ≡ rest = cc in
      subst₂ (Values k zero xs) p q (record { count = refl; good = refl; took = rw c.none (took_none xs) })
  values k (suc n) xs vs rest e =
      let s = got_then (c.field k xs) _ vs rest e in
      let t = got_then (fields c.field (suc k) n s.left) _ vs rest s.then in
      let h = law k xs s.value s.left s.first in
      let r = values (suc k) n s.left t.value t.left t.first in
      let end : got (s.value ∷ t.value) t.left ≡ got vs rest = t.then in
      let p : s.value ∷ t.value ≡ vs = cc in
      let q : t.left ≡ rest = cc in
      subst₂ (Values k (suc n) xs) p q
      (record {
        count = ap suc r.count;
        good = (and-eq-true_iff (ok k s.value) (every_at ok (suc k) t.value)).1 (h.0, r.good);
        took = rw (c.more s.value t.value) (took_then h.1 r.took);
      })

  module _ (width : ℕ) (test : ℕ → Bool) (size : ℕ → ℕ) where
    pub record Counted (xs vs rest : List ℕ) : Type 0 where
      pub count : ℕ
      pub passes : test count ≡ true
      pub values : length vs ≡ size count
      pub good : every_at ok 0 vs ≡ true
      pub took : Took xs (bytes_of width count ++ c.many vs) rest

    pub counted : (xs vs rest : List ℕ) → section c width test size xs ≡ got vs rest → Counted xs vs rest
    counted xs vs rest e =
        let s = got_then (tested test 22 (number width xs)) _ vs rest e in
        let t = got_tested test 22 (number width xs) s.value s.left s.first in
        let r = values 0 (size s.value) s.left vs rest s.then in
        record {
          count = s.value;
          passes = t.1;
          values = r.count;
          good = r.good;
          took = took_then (number_took width xs s.value s.left t.0) r.took;
        }
