-- A scan of bytes, each tested by its index.
-- Assumes nothing.
use mathlib.Core.Path.{◌≡◌, refl}
use mathlib.Core.Bool.{Bool, true, false, ◌&&◌, cond}
use mathlib.Core.List.{List, [], ◌∷◌}
use Prim.Native.Nat.{ℕ, zero, suc}
use native.Mathlib.Omega.{arith}
use borrow.Author.Tests.{le-leb, lt-leb}
use lib.Dec.{leb}
use Rattle.std.proofs.lemmas.Bool.Decides.{nat_tests}
use lib.ListN.{length, take, drop}
use Rattle.station_file.specs.Reading.{Reading, got, refused, and_then, fields}
use Rattle.station_file.specs.Write.{every_at}
use Rattle.station_file.specs.Places.{byte_field}

-- so many bytes, those that the file has tested first
abbrev scan : Bool → Bool → List ℕ → List ℕ → Reading (List ℕ)
scan good whole vs rest = cond good (cond whole (got vs rest) (refused 21)) (refused 23)

pushed : (p e w : Bool) (x : ℕ) (xs vs last : List ℕ) (more : List ℕ → Reading (List ℕ)) → more xs ≡ scan e w vs last
    → and_then (cond p (got x xs) (refused 23)) (λ (v : ℕ) (rest : List ℕ). and_then (more rest) (λ (ws : List ℕ) (end : List ℕ). got (v ∷ ws) end))
    ≡ scan (p && e) w (x ∷ vs) last
pushed true true true x xs vs last more h = rw h refl
pushed true true false x xs vs last more h = rw h refl
pushed true false w x xs vs last more h = rw h refl
pushed false e w x xs vs last more h = refl

pub scanned : (ok : ℕ → ℕ → Bool) (k n : ℕ) (xs : List ℕ)
    → fields (byte_field ok) k n xs ≡ scan (every_at ok k (take n xs)) (leb n (length xs)) (take n xs) (drop n xs)
scanned ok k zero xs = rw (le-leb 0 (length xs) (omega arith)) refl
scanned ok k (suc n) [] = rw (lt-leb (suc n) 0 (omega arith)) refl
scanned ok k (suc n) (x ∷ xs) =
    let e : leb (suc n) (length (x ∷ xs)) ≡ leb n (length xs) = grind (arith, nat_tests) in
    rw e
    (pushed (ok k x) (every_at ok (suc k) (take n xs)) (leb n (length xs)) x xs (take n xs) (drop n xs) (fields (byte_field ok) (suc k) n) (scanned ok (suc k) n xs))
