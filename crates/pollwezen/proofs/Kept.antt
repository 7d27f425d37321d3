-- A step's number that is a refusal leaves the record as it came.
-- Assumes nothing.
use mathlib.Core.Path.{◌≡◌, ◌∙◌, ap, refl}
use mathlib.Core.List.{List}
use Rattle.std.specs.Prelude.{Option, Some, None}
use Rattle.memory.specs.declared.Model.{Model}
use Prim.Native.Nat.{ℕ}
use Rattle.memory.specs.Chip.{chip_of}
use Rattle.machine.specs.Signals.{Signals}
use Rattle.machine.specs.declared.Machine.{Machine}
use Rattle.cpu.specs.Answers.{reply_number}
use Rattle.cpu.specs.Reply.{Reply, done, in_standby, refused, Step}
use Rattle.step_laws.proofs.Steps.{step_laws}
use Rattle.pollwezen.specs.Lent.{Lent, lent_step_of}
use Rattle.pollwezen.specs.Models.{step_on}

by_reply : (q : Reply) (m : Machine) (s : Step) → s.reply ≡ q → ((n : ℕ) → s.reply ≡ refused n → s.machine ≡ m)
    → (reply_number s.reply ≡ 0 → ⊥) → (reply_number s.reply ≡ 255 → ⊥) → s.machine ≡ m
by_reply done m s e k zero-not last-not = absurd (zero-not (ap reply_number e))
by_reply in_standby m s e k zero-not last-not = absurd (last-not (ap reply_number e))
by_reply (refused n) m s e k zero-not last-not = k n e

left : (c : Option Model) (rom : List ℕ) (i : Signals) (m : Machine) (n : ℕ) → (step_on c rom i m).reply ≡ refused n → (step_on c rom i m).machine ≡ m
left (Some model) rom i m n e = (step_laws (chip_of model) rom i m).kept n e
left None rom i m n e = refl

pub kept : (c : Option Model) (rom : List ℕ) (i : Signals) (m : Machine) (x : Lent ℕ) → x ≡ lent_step_of (step_on c rom i m)
    → (x.answer ≡ 0 → ⊥) → (x.answer ≡ 255 → ⊥) → x.machine ≡ m
kept c rom i m x e zero-not last-not =
    let s = step_on c rom i m in
    let n : x.answer ≡ reply_number s.reply = ap (λ (y : Lent ℕ). y.answer) e in
    ap (λ (y : Lent ℕ). y.machine) e
    ∙ by_reply s.reply m s refl (left c rom i m) (λ z. zero-not (n ∙ z)) (λ z. last-not (n ∙ z))
