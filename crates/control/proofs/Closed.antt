-- A level closed, and what is made of the control then.
-- Assumes nothing.
use Rattle.std.proofs.Common.{◌≡◌, Bool, true, false, cond, sym, ap, ◌∙◌, eq-eqb, arith}
use mathlib.Core.Bool.{false≢true}
use Rattle.machine.specs.Refusals.{number_of}
use Rattle.machine.specs.declared.Control.{Control}
use Rattle.machine.specs.declared.Refusal.{Refusal}
use Rattle.control.specs.Control.{Transfer, goes, refused_control}
use Rattle.control.proofs.Numbers.{number_not_0}

-- a refusal is the stack's, whatever would have come
pub refused : (empty : Bool) (q : Refusal) (left c a b : Control) → refused_control (number_of q) left ≡ cond empty (refused_control 7 c) (goes a)
    → refused_control (number_of q) left ≡ cond empty (refused_control 7 c) (goes b)
refused true q left c a b e = e
refused false q left c a b e =
    absurd (false≢true (sym (number_not_0 q) ∙ eq-eqb (number_of q) 0 (ap (λ (t : Transfer). t.refusal) e)))

pub closed : (empty : Bool) (f : Control → Control) (d c a : Control) → goes d ≡ cond empty (refused_control 7 c) (goes a)
    → goes (f d) ≡ cond empty (refused_control 7 c) (goes (f a))
closed true f d c a e = let n = ap (λ (t : Transfer). t.refusal) e in absurd (omega (arith, n))
closed false f d c a e = ap (λ (t : Transfer). goes (f t.control)) e
