-- A number in so many bytes: what is written is read back, and what was read is taken off the front.
-- Assumes nothing.
use mathlib.Core.Path.{◌≡◌, ◌∙◌, ap, refl, sym, subst}
use mathlib.Core.List.{List, [], ◌∷◌, ◌++◌}
use Prim.Native.Nat.{ℕ, zero, suc, ◌+◌, ◌*◌, ◌/◌, ◌%◌, ◌^◌, ◌<◌}
use native.Mathlib.Nat.{one-le-pow, zero-lt-suc, pow-succ', mod-eq_of_lt}
use native.Mathlib.Omega.{arith}
use lib.Arith.{digits_lt, digits_div, mod-mul}
use lib.ListN.{length}
use Rattle.station_file.specs.Reading.{got, number_from, number}
use Rattle.station_file.specs.Write.{bytes_of}
use Rattle.station_file.proofs.Readings.{not_got}
use Rattle.station_file.proofs.Taking.{Bytes, Took}

pow_256 : (n : ℕ) → 0 < 256 ^ n
pow_256 n = one-le-pow n 256 (zero-lt-suc 255)

-- one byte more behind the high part a, where the bytes after it count to p
one_byte : (a x p r : ℕ) → (a * 256 + x) * p + r ≡ a * (256 * p) + (x * p + r)
one_byte a x p r = omega arith

pub length_number : (n v : ℕ) → length (bytes_of n v) ≡ n
length_number zero v = refl
length_number (suc n) v = ap suc (length_number n v)

number_back_from : (a n v : ℕ) (rest : List ℕ) → number_from a n (bytes_of n v ++ rest) ≡ got (a * 256 ^ n + v % 256 ^ n) rest
number_back_from a zero v rest = ap (λ (x : ℕ). got x rest) (omega arith)
number_back_from a (suc n) v rest =
    let m : v % (256 * 256 ^ n) ≡ (v / 256 ^ n % 256) * 256 ^ n + v % 256 ^ n = mod-mul v (zero-lt-suc 255) (pow_256 n) in
    number_back_from (a * 256 + v / 256 ^ n % 256) n v rest
    ∙ ap (λ (x : ℕ). got x rest)
    (one_byte a (v / 256 ^ n % 256) (256 ^ n) (v % 256 ^ n)
    ∙ ap (λ (x : ℕ). a * (256 * 256 ^ n) + x) (sym m)
    ∙ ap (λ (p : ℕ). a * p + v % p) (sym (pow-succ' 256 n)))

-- a number that fits its bytes is read back
pub number_back : (n v : ℕ) (rest : List ℕ) → v < 256 ^ n → number n (bytes_of n v ++ rest) ≡ got v rest
unfolding number
number_back n v rest h =
    let m : v % 256 ^ n ≡ v = mod-eq_of_lt h in
    number_back_from 0 n v rest ∙ ap (λ (x : ℕ). got x rest) (omega arith)

-- bytes that were read after the high part a
record Digits (a n v : ℕ) (bytes : List ℕ) : Type 0 where
  low : ℕ
  small : low < 256 ^ n
  value : v ≡ a * 256 ^ n + low
  text : bytes ≡ bytes_of n v

record Front (a n : ℕ) (xs : List ℕ) (v : ℕ) (rest : List ℕ) : Type 0 where
  bytes : List ℕ
  split : xs ≡ bytes ++ rest
  count : length bytes ≡ n
  digits : Bytes bytes → Digits a n v bytes

more_digits : (a n x v : ℕ) (bytes : List ℕ) → x < 256 → Digits (a * 256 + x) n v bytes → Digits a (suc n) v (x ∷ bytes)
more_digits a n x v bytes l d =
    let s : d.low < 256 ^ n = d.small in
    let value : v ≡ (a * 256 + x) * 256 ^ n + d.low = d.value in
    let top : v / 256 ^ n ≡ a * 256 + x = ap (λ (y : ℕ). y / 256 ^ n) value ∙ digits_div (a * 256 + x) s in
    let byte : x ≡ v / 256 ^ n % 256 = omega arith in
    record {
      low = x * 256 ^ n + d.low;
      small = subst (λ (p : ℕ). x * 256 ^ n + d.low < p) (sym (pow-succ' 256 n)) (digits_lt l s);
      value = value ∙ one_byte a x (256 ^ n) d.low ∙ ap (λ (p : ℕ). a * p + (x * 256 ^ n + d.low)) (sym (pow-succ' 256 n));
      text = ap (λ (y : ℕ). y ∷ bytes) byte ∙ ap (λ (ys : List ℕ). v / 256 ^ n % 256 ∷ ys) d.text;
    }

front : (a n : ℕ) (xs : List ℕ) (v : ℕ) (rest : List ℕ) → number_from a n xs ≡ got v rest → Front a n xs v rest
front a zero xs v rest e =
    let p : v ≡ a = cc in
    let q : xs ≡ rest = cc in
    record { bytes = []; split = q; count = refl; digits = λ b. record { low = 0; small = pow_256 0; value = omega arith; text = refl } }
front a (suc n) [] v rest e = absurd (not_got 21 v rest e)
front a (suc n) (x ∷ xs) v rest e =
    let f = front (a * 256 + x) n xs v rest e in
    record {
      bytes = x ∷ f.bytes;
      split = ap (λ (l : List ℕ). x ∷ l) f.split;
      count = ap suc f.count;
      digits = λ b. more_digits a n x v f.bytes b.0 (f.digits b.1);
    }

pub number_took : (n : ℕ) (xs : List ℕ) (v : ℕ) (rest : List ℕ) → number n xs ≡ got v rest → Took xs (bytes_of n v) rest
unfolding number
number_took n xs v rest e =
    let f = front 0 n xs v rest e in
    record { bytes = f.bytes; split = f.split; size = f.count ∙ sym (length_number n v); same = λ b. (f.digits b).text }
