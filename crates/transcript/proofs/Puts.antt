-- Texts put one after the other.
-- Assumes nothing.
use mathlib.Core.Path.{◌≡◌, ◌∙◌, refl, sym, ap}
use mathlib.Core.List.{List, [], ◌∷◌, ◌++◌, append_assoc}
use borrow.Rule.Slice.PartMut.{put_mid}
use Rattle.std.proofs.lemmas.Slice.{put_mid-paste}
use Rattle.std.proofs.lemmas.List.Edits.{paste_all}
use Prim.Native.Nat.{ℕ, suc, min, ◌+◌, ◌-◌, ◌^◌, ◌<◌, ◌≤◌}
use native.Mathlib.Nat.{add-zero}
use native.Mathlib.Omega.{arith}
use lib.ListN.{length, take, drop, set, length-append}
use lib.Seq.{sets, sets-eq, length-sets}
use Rattle.std.proofs.lemmas.List.{set_past, length-drop, length-take-le, take-append-drop}
use borrow.Author.Tests.{le-leb, lt-leb}
use Rattle.station_file.specs.Read.{overlay}
use Rattle.transcript.specs.Print.{printed, refused}
use Rattle.transcript.specs.Put.{put_of}
use Rattle.transcript.specs.declared.Sink.{Sink}
use Rattle.transcript.specs.Printing.{Wrote}

sets_append : (a b l : List ℕ) (at : ℕ) → sets l at (a ++ b) ≡ sets (sets l at a) (at + length a) b
sets_append [] b l at = rw (add-zero at)
sets_append (x ∷ a) b l at =
    let e : at + suc (length a) ≡ suc at + length a = omega arith in
    rw e (sets_append a b (set l at x) (suc at))

-- past the end nothing is put
sets_past : (text l : List ℕ) (at : ℕ) → (0 < length text → length l ≤ at) → sets l at text ≡ l
sets_past [] l at h = refl
sets_past (x ∷ text) l at h =
    let e = h (omega arith) in
    rw (set_past l at x e) (sets_past text l (suc at) (λ _. omega (arith, e)))

sets_from : (text l : List ℕ) (from at : ℕ) → (0 < length text → from ≡ at) → sets l from text ≡ sets l at text
sets_from [] l from at h = refl
sets_from (x ∷ text) l from at h = ap (λ (n : ℕ). sets l n (x ∷ text)) (h (omega arith))

-- the part of a text that fits, copied to its place
pub copied : (text l copy : List ℕ) (at from n : ℕ) → from ≡ min at (length l) → n ≡ min (length text) (length l - from)
    → copy ≡ take n text → put_mid from (from + n - from) l copy ≡ sets l at text
copied text l copy at from n e f g =
    let part = take n text in
    let rest = drop n text in
    let k : length part ≡ n = length-take-le n text (omega (arith, f)) in
    let past : 0 < length rest → length (sets l at part) ≤ at + length part =
    λ h. omega (arith, length-sets l at part, length-drop n text, k, e, f, h) in
    put_mid-paste from (from + n - from) l copy part (length part) g (omega (arith, k)) refl
    ∙ paste_all l from part (length part) refl
    ∙ sym (append_assoc (take from l) part (drop (from + length part) l))
    ∙ sym (sets-eq part l from (omega (arith, k, e, f)))
    ∙ sets_from part l from at (λ h. omega (arith, k, e, f, h))
    ∙ sym (sets_past rest (sets l at part) (at + length part) past)
    ∙ sym (sets_append part rest l at)
    ∙ ap (λ (t : List ℕ). sets l at t) (take-append-drop n text)

pub nothing : {most : ℕ} {x : Sink} → Wrote most [] x x
nothing {most} {x} = record { same_buffer = refl; put = λ h. (refl, omega arith); short = omega arith }

module _ {j k : ℕ} {a b : List ℕ} {x y z : Sink} where
  pub joined : Wrote j a x y → Wrote k b y z → Wrote (j + k) (a ++ b) x z
  joined f g =
      record {
        same_buffer = g.same_buffer ∙ f.same_buffer;
        put = λ h.
            let p = f.put (omega (arith, length-append a b)) in
            let q = g.put (omega (arith, length-append a b, p.1)) in (
              q.0
                  ∙ ap (λ (l : List ℕ). sets l y.at b) p.0
                  ∙ ap (λ (n : ℕ). sets (sets x.out.now x.at a) n b) p.1
                  ∙ sym (sets_append a b x.out.now x.at),
              omega (arith, length-append a b, p.1, q.1),
            );
        short = omega (arith, length-append a b, f.short, g.short);
      }

module _ {j : ℕ} {a : List ℕ} {x y : Sink} where
  -- the same text in other words
  pub reworded : {b : List ℕ} → a ≡ b → Wrote j a x y → Wrote j b x y
  reworded e w = rw (← e) w

  -- another bound
  pub bounded : (most : ℕ) → j ≤ most → Wrote j a x y → Wrote most a x y
  bounded most h w = record { same_buffer = w.same_buffer; put = w.put; short = omega (arith, w.short) }

  pub shorter : (most : ℕ) → length a ≤ most → Wrote j a x y → Wrote most a x y
  shorter most h w = record { same_buffer = w.same_buffer; put = w.put; short = h }

  -- from the front on
  pub from_front : {before : List ℕ} → x.out.now ≡ before → x.at ≡ 0 → j < 2 ^ 64 → Wrote j a x y → (y.out.now ≡ sets before 0 a) × (y.at ≡ length a)
  from_front {before} e f h w =
      let p = w.put (omega (arith, w.short)) in
      (p.0 ∙ ap (λ (n : ℕ). sets x.out.now n a) f ∙ ap (λ (l : List ℕ). sets l 0 a) e, omega (arith, p.1))

-- a text that fits
pub fitting : (text out : List ℕ) → length text ≤ length out → sets out 0 text ≡ overlay text out
fitting text out h =
    let e : 0 + length text ≡ length text = omega arith in
    sets-eq text out 0 (omega arith) ∙ rw e

-- what is answered for a text in a lent buffer
module _ (text out : List ℕ) where
  pub put_short : length out < length text → record { reply = refused 25; out = out } ≡ put_of text out
  unfolding put_of
  put_short h = rw (lt-leb (length text) (length out) h)

  pub put_long : (after : List ℕ) (n : ℕ) → n ≡ length text → length text ≤ length out → after ≡ sets out 0 text
      → record { reply = printed n; out = after } ≡ put_of text out
  unfolding put_of
  put_long after n e h f = rw (le-leb (length text) (length out) h, f, fitting text out h, e)
