-- What an arm of a match on a number knows. One with keys, `c.match.keys1`: the number is one of them, so what is computed at
-- each key holds in that arm. The arm `_`, `c.match.rest`: the number is none of the other arms' keys. So what a computed test
-- shows of each number that is no key, or lies outside the arms that are ranges, holds in that arm.
-- Assumes nothing.
use mathlib.Core.Path.{◌≡◌}
use mathlib.Core.List.{List, [], ◌∷◌, map}
use mathlib.Core.Bool.{Bool, true, false, ◌&&◌, ◌||◌}
use Prim.Native.Nat.{ℕ, ◌<◌, ◌≤◌}
use native.Mathlib.Omega.{arith}
use mathlib.Core.Logic.{◌⊎◌, inl, inr, ⊎_elim}
use mir.Val.{has_key}
use types.Run.{OneOf, hit}
use lib.Dec.{T, leb, leb→le}
use lib.ListN.{length, replicate}
use Rattle.laws.specs.Every.{every}
use Rattle.laws.proofs.Every.{every_at_lem, and_left, and_right}

-- f is v at each key of an arm
pub in_arm : {A : Type 0} (f : ℕ → A) (v : A) (ks : List ℕ) → map f ks ≡ replicate (length ks) v → (x : ℕ) → OneOf ks x → v ≡ f x
in_arm f v [] e x h = absurd h
in_arm f v (k ∷ []) e x h = let at : v ≡ f k = cc in rw h at
in_arm f v (k ∷ l ∷ ks) e x (inl h) = let at : v ≡ f k = cc in rw h at
in_arm f v (k ∷ l ∷ ks) e x (inr h) = in_arm f v (l ∷ ks) (cc) x h

pub or_else : (a b : Bool) → (T a → ⊥) → T (a || b) → T b
or_else true b h t = absurd (h tt)
or_else false b h t = t

-- the arms' keys, the last arm's first, as `.rest` nests them
abbrev pub Rest : List (List ℕ) → ℕ → Type 0
Rest [] x = Unit
Rest (ks ∷ kss) x = Rest kss x × (OneOf ks x → ⊥)

-- arms of one key each
abbrev pub singly : List ℕ → List (List ℕ)
singly ks = map (λ (k : ℕ). k ∷ []) ks

abbrev pub has_any : List (List ℕ) → ℕ → Bool
has_any [] x = false
has_any (ks ∷ kss) x = has_key ks x || has_any kss x

pub no_key : (kss : List (List ℕ)) (x : ℕ) → Rest kss x → T (has_any kss x) → ⊥
no_key [] x r t = t
no_key (ks ∷ kss) x r t =
    no_key kss x r.0 (or_else (has_key ks x) (has_any kss x) (λ h. r.1 (hit ks x h)) t)

-- an arm that is a range, from its first number to its last
pub record Span : Type 0 where
  pub first : ℕ
  pub last : ℕ

abbrev pub Outside : Span → ℕ → Type 0
Outside s x = (x < s.first) ⊎ (s.last < x)

abbrev pub AllOutside : List Span → ℕ → Type 0
AllOutside [] x = Unit
AllOutside (s ∷ ss) x = Outside s x × AllOutside ss x

abbrev pub inside : Span → ℕ → Bool
inside s x = leb s.first x && leb x s.last

abbrev pub inside_any : List Span → ℕ → Bool
inside_any [] x = false
inside_any (s ∷ ss) x = inside s x || inside_any ss x

not_inside : (s : Span) (x : ℕ) → Outside s x → T (inside s x) → ⊥
not_inside s x o t =
    let l : s.first ≤ x = leb→le s.first x (and_left (leb s.first x) (leb x s.last) t) in
    let h : x ≤ s.last = leb→le x s.last (and_right (leb s.first x) (leb x s.last) t) in
    ⊎_elim (λ (a : x < s.first). omega arith) (λ (a : s.last < x). omega arith) o

none_inside : (ss : List Span) (x : ℕ) → AllOutside ss x → T (inside_any ss x) → ⊥
none_inside [] x o t = t
none_inside (s ∷ ss) x o t =
    none_inside ss x o.1 (or_else (inside s x) (inside_any ss x) (not_inside s x o.0) t)

-- the test f passes at each number below n that no arm takes
abbrev pub every_else : List (List ℕ) → List Span → (ℕ → Bool) → ℕ → Bool
every_else kss ss f n = every (λ (k : ℕ). has_any kss k || (inside_any ss k || f k)) n

-- so it passes in the arm `_`
pub in_rest : (kss : List (List ℕ)) (ss : List Span) (f : ℕ → Bool) (n : ℕ) → T (every_else kss ss f n)
    → (x : ℕ) → x < n → Rest kss x → AllOutside ss x → T (f x)
in_rest kss ss f n t x h r o =
    or_else (inside_any ss x) (f x) (none_inside ss x o)
    (or_else (has_any kss x) (inside_any ss x || f x) (no_key kss x r)
    (every_at_lem (λ (k : ℕ). has_any kss k || (inside_any ss k || f k)) n t x h))
