-- Readers that have enough bytes do not see what follows them.
-- Assumes nothing.
use mathlib.Core.Path.{◌≡◌, ◌∙◌, refl, sym, ap}
use mathlib.Core.Bool.{Bool, true, false, cond}
use mathlib.Core.List.{List, [], ◌∷◌, ◌++◌}
use Prim.Native.Nat.{ℕ, zero, suc, ◌+◌, ◌*◌, ◌≤◌, ◌<◌}
use native.Mathlib.Nat.{mul-suc, mul-le-mul_left}
use native.Mathlib.Omega.{arith}
use lib.Dec.{eqb, leb}
use lib.ListN.{length, take, drop, take-append-drop, length-drop}
use lib.Seq.{length-take-le, drop-append-le}
use borrow.Author.Tests.{leb-true}
use Rattle.station_file.specs.Reading.{Reading, got, refused, and_then, tested, byte, number_from, number, fields}
use Rattle.station_file.specs.Forms.{numbered, form_for, in_memory, loaded, load_of}
use Rattle.station_file.specs.Station.{Form, form1, form2, Station, longest, rom_count, sheet_count, entry_byte, input_byte, rom_section, sheet_section, input_section, ended, parse_of}
use Rattle.station_file.proofs.Counted.{Codec, words, bytes, section}
use Rattle.station_file.proofs.Local.{entry_bytes_of, fields_agree, entry_same, sheet_section_lem}
use Rattle.station_file.proofs.Parts.{rom_counted}
use Rattle.station_file.proofs.Readings.{not_got, got_then, got_tested}
use Rattle.station_file.proofs.Soundness.{words_bound, entries_bound}
use Rattle.station_laws.specs.Longer.{Longer}
use Rattle.station_file.proofs.InForms.{read_in}
use Rattle.station_laws.proofs.Sizes.{sizes}

-- the same answer, with more bytes left
abbrev grown : {A : Type 0} → List ℕ → Reading A → Reading A
grown ys (got v rest) = got v (rest ++ ys)
grown ys (refused n) = refused n

-- a reader to which so many bytes are enough: with them it does not see what follows, and it takes no more
record Enough {A : Type 0} (b : ℕ) (read : List ℕ → Reading A) : Type 0 where
  blind : (xs ys : List ℕ) → b ≤ length xs → read (xs ++ ys) ≡ grown ys (read xs)
  takes : (xs : List ℕ) (v : A) (rest : List ℕ) → read xs ≡ got v rest → length xs ≤ b + length rest

within : {A : Type 0} {read : List ℕ → Reading A} (b c : ℕ) → b ≤ c → Enough b read → Enough c read
within b c h e = record { blind = λ xs ys l. e.blind xs ys (omega arith); takes = λ xs v rest q. omega (arith, e.takes xs v rest q) }

-- one reader after another
enough_then : {A B : Type 0} (read : List ℕ → Reading A) (f : A → List ℕ → Reading B) (b c : ℕ) → Enough b read
    → ((xs : List ℕ) (v : A) (rest : List ℕ) → read xs ≡ got v rest → Enough c (f v)) → Enough (b + c) (λ (xs : List ℕ). and_then (read xs) f)
enough_then {A} {B} read f b c e g = record {
  blind = λ xs ys h. ap (λ (r : Reading A). and_then r f) (e.blind xs ys (omega arith)) ∙ go xs ys h (read xs) refl;
  takes = λ xs w rest q.
      let s = got_then (read xs) f w rest q in
      omega (arith, e.takes xs s.value s.left s.first, (g xs s.value s.left s.first).takes s.left w rest s.then);
}
  where
    go : (xs ys : List ℕ) → b + c ≤ length xs → (r : Reading A) → read xs ≡ r → and_then (grown ys r) f ≡ grown ys (and_then r f)
    go xs ys h (got v rest) q = (g xs v rest q).blind rest ys (omega (arith, e.takes xs v rest q))
    go xs ys h (refused n) q = refl

enough_got : {A : Type 0} (v : A) → Enough 0 (got v)
enough_got v = record { blind = λ xs ys h. refl; takes = λ xs w rest q. let e : xs ≡ rest = cc in omega (arith, ap length e) }

enough_tested : (read : List ℕ → Reading ℕ) (ok : ℕ → Bool) (n b : ℕ) → Enough b read → Enough b (λ (xs : List ℕ). tested ok n (read xs))
enough_tested read ok n b e = record {
  blind = λ xs ys h. ap (tested ok n) (e.blind xs ys h) ∙ go ys (read xs);
  takes = λ xs v rest q. e.takes xs v rest (got_tested ok n (read xs) v rest q).0;
}
  where
    by_test : (ys : List ℕ) (p : Bool) (v : ℕ) (rest : List ℕ) → cond p (got v (rest ++ ys)) (refused n) ≡ grown ys (cond p (got v rest) (refused n))
    by_test ys true v rest = refl
    by_test ys false v rest = refl

    go : (ys : List ℕ) (r : Reading ℕ) → tested ok n (grown ys r) ≡ grown ys (tested ok n r)
    go ys (got v rest) = by_test ys (ok v) v rest
    go ys (refused m) = refl

enough_byte : Enough 1 byte
enough_byte = record { blind = blind; takes = takes }
  where
    blind : (xs ys : List ℕ) → 1 ≤ length xs → byte (xs ++ ys) ≡ grown ys (byte xs)
    blind [] ys h = absurd (omega arith)
    blind (a ∷ xs) ys h = refl

    takes : (xs : List ℕ) (v : ℕ) (rest : List ℕ) → byte xs ≡ got v rest → length xs ≤ 1 + length rest
    takes [] v rest q = absurd (not_got 21 v rest q)
    takes (a ∷ xs) v rest q = let e : xs ≡ rest = cc in omega (arith, ap length e)

enough_digits : (v n : ℕ) → Enough n (number_from v n)
enough_digits v n = record { blind = blind n v; takes = takes n v }
  where
    blind : (m w : ℕ) (xs ys : List ℕ) → m ≤ length xs → number_from w m (xs ++ ys) ≡ grown ys (number_from w m xs)
    blind zero w xs ys h = refl
    blind (suc m) w [] ys h = absurd (omega arith)
    blind (suc m) w (a ∷ xs) ys h = blind m (w * 256 + a) xs ys (omega arith)

    takes : (m w : ℕ) (xs : List ℕ) (u : ℕ) (rest : List ℕ) → number_from w m xs ≡ got u rest → length xs ≤ m + length rest
    takes zero w xs u rest q = let e : xs ≡ rest = cc in omega (arith, ap length e)
    takes (suc m) w [] u rest q = absurd (not_got 21 u rest q)
    takes (suc m) w (a ∷ xs) u rest q = omega (arith, takes m (w * 256 + a) xs u rest q)

enough_number : (n : ℕ) → Enough n (number n)
unfolding number
enough_number n = enough_digits 0 n

-- so many fields of so many bytes
enough_fields : (w : ℕ) (field : ℕ → List ℕ → Reading ℕ) → ((k : ℕ) → Enough w (field k)) → (n k : ℕ) → Enough (w * n) (fields field k n)
enough_fields w field e zero k = within 0 (w * 0) (omega arith) (enough_got [])
enough_fields w field e (suc n) k =
    within (w + (w * n + 0)) (w * suc n) (omega (arith, mul-suc w n))
    (enough_then (field k) _ w (w * n + 0) (e k)
    (λ xs v rest q. enough_then (fields field (suc k) n) _ (w * n) 0 (enough_fields w field e n (suc k)) (λ ys vs last p. enough_got (v ∷ vs))))

-- a section, by the most bytes that its fields can have
enough_section : (c : Codec) (width : ℕ) (test : ℕ → Bool) (size : ℕ → ℕ) (w most : ℕ) → ((k : ℕ) → Enough w (c.field k))
    → ((n : ℕ) → test n ≡ true → w * size n ≤ most) → Enough (width + most) (section c width test size)
enough_section c width test size w most e bound =
    enough_then (λ (xs : List ℕ). tested test 22 (number width xs)) _ width most (enough_tested (number width) test 22 width (enough_number width))
    (λ xs n rest q. within (w * size n) most (bound n (got_tested test 22 (number width xs) n rest q).1) (enough_fields w c.field e (size n) 0))

enough_bytes : (ok : ℕ → ℕ → Bool) (k : ℕ) → Enough 1 (λ (xs : List ℕ). tested (ok k) 23 (byte xs))
enough_bytes ok k = enough_tested byte (ok k) 23 1 enough_byte

enough_rom : Enough (2 + 2 * 1024) rom_section
unfolding rom_section
enough_rom = enough_section words 2 rom_count (λ (n : ℕ). n) 2 (2 * 1024) (λ k. enough_number 2) (λ n e. omega (arith, words_bound n e))

-- a section of bytes by two tests that agree as far as it can go
section_agree : (f g : ℕ → ℕ → Bool) (test : ℕ → Bool) (size : ℕ → ℕ) (most : ℕ) → ((n : ℕ) → test n ≡ true → size n ≤ most)
    → ((i b : ℕ) → i < most → f i b ≡ g i b) → (xs : List ℕ) → section (bytes f) 2 test size xs ≡ section (bytes g) 2 test size xs
section_agree f g test size most bound same xs = by_number (number 2 xs)
  where
    by_test : (n : ℕ) (rest : List ℕ) (p : Bool) → test n ≡ p
        → and_then (cond p (got n rest) (refused 22)) (λ (m : ℕ) (left : List ℕ). fields (bytes f).field 0 (size m) left)
        ≡ and_then (cond p (got n rest) (refused 22)) (λ (m : ℕ) (left : List ℕ). fields (bytes g).field 0 (size m) left)
    by_test n rest true e = fields_agree f g most same 0 (size n) rest (omega (arith, bound n e))
    by_test n rest false e = refl

    by_number : (r : Reading ℕ)
        → and_then (tested test 22 r) (λ (m : ℕ) (left : List ℕ). fields (bytes f).field 0 (size m) left)
        ≡ and_then (tested test 22 r) (λ (m : ℕ) (left : List ℕ). fields (bytes g).field 0 (size m) left)
    by_number (got n rest) = by_test n rest (test n) refl
    by_number (refused n) = refl

module _ (form : Form) (words : ℕ) (few : words ≤ 1024) where
  abbrev most : ℕ
  most = form.entry_bytes * 1024

  abbrev entries : List ℕ → List ℕ → Reading (List ℕ)
  entries sheet = section (bytes (entry_byte form sheet)) 2 (sheet_count words) (entry_bytes_of form words)

  bound : (n : ℕ) → sheet_count words n ≡ true → form.entry_bytes * n ≤ most
  bound n e = mul-le-mul_left form.entry_bytes (omega (arith, entries_bound words n e))

  enough_entries : (sheet : List ℕ) → Enough (2 + most) (entries sheet)
  enough_entries sheet =
      enough_section (bytes (entry_byte form sheet)) 2 (sheet_count words) (entry_bytes_of form words) 1 most (enough_bytes (entry_byte form sheet))
      (λ n e. omega (arith, bound n e))

  -- the tests close over the section's own bytes, of which they look at those that are enough
  enough_sheet : Enough (2 + most) (sheet_section form words)
  enough_sheet = record {
    blind = λ xs ys h.
        let d : drop 2 (xs ++ ys) ≡ drop 2 xs ++ ys = drop-append-le 2 xs ys (omega arith) in
        sheet_section_lem form words (xs ++ ys)
        ∙ ap (λ (sheet : List ℕ). entries sheet (xs ++ ys)) d
        ∙ sym (section_agree (entry_byte form (drop 2 xs)) (entry_byte form (drop 2 xs ++ ys)) (sheet_count words) (entry_bytes_of form words) most bound
        (λ i b l. entry_same form (drop 2 xs) ys i b (omega (arith, length-drop 2 xs))) (xs ++ ys))
        ∙ (enough_entries (drop 2 xs)).blind xs ys h
        ∙ ap (grown ys) (sym (sheet_section_lem form words xs));
    takes = λ xs v rest q. (enough_entries (drop 2 xs)).takes xs v rest (sym (sheet_section_lem form words xs) ∙ q);
  }

enough_inputs : (form : Form) → Enough (form.count_bytes + 11 * form.most_inputs) (input_section form)
unfolding input_section
enough_inputs form =
    enough_section (bytes input_byte) form.count_bytes (λ (n : ℕ). leb n form.most_inputs) (λ (n : ℕ). 11 * n) 1 (11 * form.most_inputs) (enough_bytes input_byte)
    (λ n e. omega (arith, leb-true n form.most_inputs e))

-- whether bytes follow the end is told by one of them
enough_end : (s : Station) → Enough 1 (ended s)
enough_end s = record { blind = blind; takes = takes }
  where
    blind : (xs ys : List ℕ) → 1 ≤ length xs → ended s (xs ++ ys) ≡ grown ys (ended s xs)
    blind [] ys h = absurd (omega arith)
    blind (b ∷ xs) ys h = refl

    takes : (xs : List ℕ) (t : Station) (rest : List ℕ) → ended s xs ≡ got t rest → length xs ≤ 1 + length rest
    takes [] t rest q = omega arith
    takes (b ∷ xs) t rest q = absurd (not_got 24 t rest q)

rom_words : (xs vs rest : List ℕ) → rom_section xs ≡ got vs rest → length vs ≤ 1024
rom_words xs vs rest e =
    let c = rom_counted xs vs rest e in
    omega (arith, c.values, words_bound c.count c.passes)

enough_form : (form : Form)
    → Enough (2 + (2 + 2 * 1024 + (2 + form.entry_bytes * 1024 + (form.count_bytes + 11 * form.most_inputs + 1)))) (parse_of form)
unfolding parse_of
enough_form form =
    enough_then (λ (xs : List ℕ). tested (λ (n : ℕ). eqb n form.number) 20 (number 2 xs)) _ 2 _ (enough_tested (number 2) (λ (n : ℕ). eqb n form.number) 20 2 (enough_number 2))
    (λ xs n rest q. enough_then rom_section _ (2 + 2 * 1024) _ enough_rom
    (λ xs rom rest q. enough_then (sheet_section form (length rom)) _ (2 + form.entry_bytes * 1024) _ (enough_sheet form (length rom) (rom_words xs rom rest q))
    (λ xs sheet rest q. enough_then (input_section form) _ (form.count_bytes + 11 * form.most_inputs) 1 (enough_inputs form) (λ xs inputs rest q. enough_end _))))

enough_file : (xs : List ℕ) → Enough (longest + 1) (parse_of (form_for xs))
enough_file xs =
    read_in (λ (f : Form). Enough (longest + 1) (parse_of f)) (within _ (longest + 1) (omega arith) (enough_form form1))
    (within _ (longest + 1) (omega arith) (enough_form form2)) xs

-- the form is told by the first two bytes
same_form : (xs ys : List ℕ) → 2 ≤ length xs → form_for (xs ++ ys) ≡ form_for xs
unfolding form_for
same_form xs ys h = ap numbered ((enough_number 2).blind xs ys h) ∙ go (number 2 xs)
  where
    go : (r : Reading ℕ) → numbered (grown ys r) ≡ numbered r
    go (got n rest) = refl
    go (refused n) = refl

module _ (xs ys : List ℕ) (size : length xs ≡ longest + 1) where
  no_station : (r : Reading Station) → parse_of (form_for xs) xs ≡ r → grown ys r ≡ r
  unfolding load_of
  no_station (got t rest) e = absurd (omega (arith, size, (sizes xs (in_memory (form_for xs) t) rest (ap (loaded (form_for xs)) e)).file))
  no_station (refused n) e = refl

  front_alone : load_of (xs ++ ys) ≡ load_of xs
  unfolding load_of
  front_alone =
      ap (λ (f : Form). loaded f (parse_of f (xs ++ ys))) (same_form xs ys (omega (arith, size)))
      ∙ ap (loaded (form_for xs)) ((enough_file xs).blind xs ys (omega (arith, size)) ∙ no_station (parse_of (form_for xs) xs) refl)

pub longer : Longer
longer xs h =
    ap load_of (sym (take-append-drop (longest + 1) xs))
    ∙ front_alone (take (longest + 1) xs) (drop (longest + 1) xs) (length-take-le (longest + 1) xs h)
