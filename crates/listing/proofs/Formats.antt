-- The six formats: operands that fit their fields are those that stand in the word, and a word's own bits tell whether it is a row's.
-- Assumes nothing.
use Rattle.std.proofs.Common.{◌≡◌, ℕ, ◌+◌, ◌*◌, ◌/◌, ◌%◌, ◌<◌, Bool, true, ◌&&◌, T, eqb, ltb, ◌∙◌, arith, eqb→eq, ltb→lt, lt→ltb, eq-eqb}
use Rattle.laws.proofs.Every.{and_left, and_right, and_both, passed}
use Rattle.listing.specs.declared.table.Fields.{Fields}
use Rattle.listing.specs.declared.table.Format.{Format}
use Rattle.listing.specs.declared.table.Format.TheVariants.{Plain, Rm, Mn, Nibble, Split, Target}
use Rattle.listing.specs.Patterns.{placed_by}
use Rattle.listing.specs.Rows.{unused_zero}
use Rattle.listing.specs.Table.{fields, fields_in}

-- the word that has the row's own bits of the first number, field by field as in the manual's column "Machine code"
abbrev pub word_in : Format → ℕ → Fields → ℕ
word_in Plain bits o = bits
word_in Rm bits o = bits / 2048 * 2048 + o.second / 16 * 256 + o.second % 16 * 16 + o.first
word_in Mn bits o = bits / 2048 * 2048 + o.first / 16 * 256 + o.first % 16 * 16 + o.second
word_in Nibble bits o = bits / 16 * 16 + o.first
word_in Split bits o = bits / 2048 * 2048 + o.first / 16 * 256 + bits / 16 % 16 * 16 + o.first % 16
word_in Target bits o = bits / 2048 * 2048 + o.addr

-- the operands fit their fields, and those that the format lacks are 0
abbrev pub in_range : Format → Fields → Bool
in_range Plain o = true
in_range Rm o = ltb o.second 128 && ltb o.first 16
in_range Mn o = ltb o.first 128 && ltb o.second 16
in_range Nibble o = ltb o.first 16
in_range Split o = ltb o.first 128
in_range Target o = ltb o.addr 2048

abbrev pub Fit : Format → Fields → Type 0
Fit format o = T (unused_zero format o) × T (in_range format o)

abbrev Below : ℕ → ℕ → ℕ → Fields → Type 0
Below a b c o = (o.first < a) × ((o.second < b) × (o.addr < c))

-- the same as bounds: what the format lacks has a field of no bits
abbrev Bounded : Format → Fields → Type 0
Bounded Plain o = Below 1 1 1 o
Bounded Rm o = Below 16 128 1 o
Bounded Mn o = Below 128 16 1 o
Bounded Nibble o = Below 16 1 1 o
Bounded Split o = Below 128 1 1 o
Bounded Target o = Below 1 1 2048 o

zero_below : (a : ℕ) → T (eqb a 0) → a < 1
zero_below a t = omega (arith, eqb→eq a 0 t)

zeros : (a b : ℕ) → T (eqb a 0 && eqb b 0) → (a < 1) × (b < 1)
zeros a b t =
    (zero_below a (and_left (eqb a 0) (eqb b 0) t), zero_below b (and_right (eqb a 0) (eqb b 0) t))

two_below : (a m b n : ℕ) → T (ltb a m && ltb b n) → (a < m) × (b < n)
two_below a m b n t =
    (ltb→lt a m (and_left (ltb a m) (ltb b n) t), ltb→lt b n (and_right (ltb a m) (ltb b n) t))

bounded : (format : Format) (o : Fields) → Fit format o → Bounded format o
bounded Plain o f =
    let rest : Bool = eqb o.second 0 && eqb o.addr 0 in
    (zero_below o.first (and_left (eqb o.first 0) rest f.0), zeros o.second o.addr (and_right (eqb o.first 0) rest f.0))
bounded Rm o f =
    let h = two_below o.second 128 o.first 16 f.1 in
    (h.1, (h.0, zero_below o.addr f.0))
bounded Mn o f =
    let h = two_below o.first 128 o.second 16 f.1 in
    (h.0, (h.1, zero_below o.addr f.0))
bounded Nibble o f = (ltb→lt o.first 16 f.1, zeros o.second o.addr f.0)
bounded Split o f = (ltb→lt o.first 128 f.1, zeros o.second o.addr f.0)
bounded Target o f =
    let h = zeros o.first o.second f.0 in
    (h.0, (h.1, ltb→lt o.addr 2048 f.1))

pub same_fields_lem : {a b c : ℕ} {o : Fields} → a ≡ o.first → b ≡ o.second → c ≡ o.addr → fields a b c ≡ o
same_fields_lem p q r = λ i. record { first = p i; second = q i; addr = r i }

-- an operand around a column
around : (op r c x : ℕ) → r < 8 → c < 16 → x < 16
    → (op * 2048 + r * 256 + c * 16 + x) / 256 % 8 * 16 + (op * 2048 + r * 256 + c * 16 + x) % 16 ≡ r * 16 + x
around op r c x hr hc hx = omega arith

column : (op r c x w : ℕ) → c < 16 → x < 16 → op * 2048 + r * 256 + c * 16 + x ≡ w → w / 16 % 16 ≡ c
column op r c x w hc hx e = omega arith

halves : (p : ℕ) → p / 16 * 16 + p % 16 ≡ p
halves p = omega arith

same_bounded : (format : Format) (bits : ℕ) (o : Fields) → Bounded format o → fields_in format (word_in format bits o) ≡ o
same_bounded Plain bits o h = same_fields_lem (omega arith) (omega arith) (omega arith)
same_bounded Rm bits o h = same_fields_lem (omega arith) (omega arith) (omega arith)
same_bounded Mn bits o h = same_fields_lem (omega arith) (omega arith) (omega arith)
same_bounded Nibble bits o h = same_fields_lem (omega arith) (omega arith) (omega arith)
same_bounded Split bits o h =
    let p : ℕ = o.first in
    same_fields_lem (around (bits / 2048) (p / 16) (bits / 16 % 16) (p % 16) (omega arith) (omega arith) (omega arith) ∙ halves p) (omega arith) (omega arith)
same_bounded Target bits o h = same_fields_lem (omega arith) (omega arith) (omega arith)

-- operands that fit come back from the word
pub come_back : (format : Format) (bits : ℕ) (o : Fields) → Fit format o → fields_in format (word_in format bits o) ≡ o
come_back format bits o f = same_bounded format bits o (bounded format o f)

-- what stands in a word fits
module _ (w : ℕ) where
  two : T (ltb (w / 16 % 128) 128 && ltb (w % 16) 16)
  two = and_both (ltb (w / 16 % 128) 128) (ltb (w % 16) 16) (lt→ltb (w / 16 % 128) 128 (omega arith)) (lt→ltb (w % 16) 16 (omega arith))

  pub in_fit : (format : Format) → Fit format (fields_in format w)
  in_fit Plain = (tt, tt)
  in_fit Rm = (tt, two)
  in_fit Mn = (tt, two)
  in_fit Nibble = (tt, lt→ltb (w % 16) 16 (omega arith))
  in_fit Split = (tt, lt→ltb (w / 256 % 8 * 16 + w % 16) 128 (omega arith))
  in_fit Target = (tt, lt→ltb (w % 2048) 2048 (omega arith))

-- with operands of 0 the bits are the word: the operands are added
pub adds : (format : Format) (bits : ℕ) (o : Fields) → bits ≡ word_in format bits (fields 0 0 0) → bits + placed_by format o ≡ word_in format bits o
adds Plain bits o e = omega arith
adds Rm bits o e = omega arith
adds Mn bits o e = omega arith
adds Nibble bits o e = omega arith
adds Split bits o e = omega arith
adds Target bits o e = omega arith

-- the row's bits in a word, the opcode first
abbrev own : Format → ℕ → ℕ → Bool
own Plain bits w = eqb w bits
own Rm bits w = true
own Mn bits w = true
own Nibble bits w = eqb (w / 16) (bits / 16)
own Split bits w = eqb (w / 16 % 16) (bits / 16 % 16)
own Target bits w = true

-- a word with the opcode op
abbrev pub matching : Format → ℕ → ℕ → ℕ → Bool
matching format bits op w = eqb op (bits / 2048) && own format bits w

module _ (bits w : ℕ) where
  abbrev Made : Format → Type 0
  Made format = word_in format bits (fields_in format w) ≡ w

  high : (w / 256 % 8 * 16 + w % 16) / 16 ≡ w / 256 % 8
  high = omega arith

  low : (w / 256 % 8 * 16 + w % 16) % 16 ≡ w % 16
  low = omega arith

  pub matched : (format : Format) → Made format → matching format bits (w / 2048) w ≡ true
  matched Plain e = rw (eq-eqb (w / 2048) (bits / 2048) (omega arith), eq-eqb w bits (omega arith))
  matched Rm e = rw (eq-eqb (w / 2048) (bits / 2048) (omega arith))
  matched Mn e = rw (eq-eqb (w / 2048) (bits / 2048) (omega arith))
  matched Nibble e = rw (eq-eqb (w / 2048) (bits / 2048) (omega arith), eq-eqb (w / 16) (bits / 16) (omega arith))
  matched Split e =
      let f = rw (high, low) at e in
      let c = column (bits / 2048) (w / 256 % 8) (bits / 16 % 16) (w % 16) w (omega arith) (omega arith) f in
      rw (eq-eqb (w / 2048) (bits / 2048) (omega (arith, f)), eq-eqb (w / 16 % 16) (bits / 16 % 16) c)
  matched Target e = rw (eq-eqb (w / 2048) (bits / 2048) (omega arith))

  pub made : (format : Format) → matching format bits (w / 2048) w ≡ true → Made format
  made format e =
      let op : Bool = eqb (w / 2048) (bits / 2048) in
      let t : T (op && own format bits w) = passed e in
      by_format format (eqb→eq (w / 2048) (bits / 2048) (and_left op (own format bits w) t)) (and_right op (own format bits w) t)
    where
      by_format : (format : Format) → w / 2048 ≡ bits / 2048 → T (own format bits w) → Made format
      by_format Plain op t = omega (arith, eqb→eq w bits t)
      by_format Rm op t = omega arith
      by_format Mn op t = omega arith
      by_format Nibble op t = omega (arith, eqb→eq (w / 16) (bits / 16) t)
      by_format Split op t = rw (high, low) (omega (arith, eqb→eq (w / 16 % 16) (bits / 16 % 16) t))
      by_format Target op t = omega arith
