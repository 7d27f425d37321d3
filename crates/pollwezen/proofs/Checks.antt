-- From the check's promises to those of its C entry.
-- Assumes nothing.
use mathlib.Core.Path.{◌≡◌, ◌∙◌, ap, refl, sym}
use mathlib.Core.List.{List}
use Rattle.std.specs.Prelude.{Option, Some, None, Result, Ok, Err}
use mathlib.Core.Logic.{◌↔◌}
use Prim.Native.Nat.{ℕ}
use native.Mathlib.Omega.{arith}
use Rattle.memory.specs.Chip.{chip_of}
use Rattle.memory.specs.declared.Model.{Model}
use Rattle.clearance.specs.Safe.{Safe}
use Rattle.verifier.specs.Verdict.{CheckAnswer, pass, refused, answer_of, verify_of, Clear}
use Rattle.verifier.specs.declared.CheckRefusal.{CheckRefusal}
use Rattle.verifier.specs.declared.CheckRefusal.TheVariants.{RomLength, SheetLength}
use Rattle.verifier.specs.declared.Verdict.{Verdict}
use Rattle.verifier.specs.declared.Verdict.TheVariants.{Pass, Fail}
use Rattle.pollwezen.specs.Models.{ClearOn, SafeOn, verify_on}
use Rattle.pollwezen.specs.Replies.{verdict_reply_of}
use Rattle.pollwezen.specs.declared.VerdictReply.{VerdictReply}

-- 0 is the number of a sheet that passes, and of no other answer
passed : (v : Result Verdict CheckRefusal) → (verdict_reply_of (answer_of v)).number ≡ 0 → answer_of v ≡ pass
passed (Ok Pass) e = refl
passed (Ok (Fail word rule)) e = absurd (omega (arith, e))
passed (Err RomLength) e = absurd (omega (arith, e))
passed (Err SheetLength) e = absurd (omega (arith, e))

-- the three promises of the C entry, for a model or none
abbrev Promised : Option Model → List ℕ → List ℕ → VerdictReply → Type 0
Promised s rom sheet c =
    (c ≡ verdict_reply_of (verify_on s rom sheet)) × (((c.number ≡ 0) ↔ ClearOn s rom sheet) × (c.number ≡ 0 → SafeOn s rom sheet))

-- a number that is no model's
pub not_verified : (s : Option Model) (rom sheet : List ℕ) (c : VerdictReply) → s ≡ None → c ≡ verdict_reply_of (refused 1) → Promised s rom sheet c
not_verified s rom sheet c n e =
    let never : c.number ≡ 0 → ⊥ = λ z. omega (arith, ap (λ (x : VerdictReply). x.number) e, z) in
    rw n (e, ((never, (λ k. absurd k)), never))

module _ (model : Model) (rom sheet : List ℕ) (v : Result Verdict CheckRefusal) (c : VerdictReply) (e : c ≡ verdict_reply_of (answer_of v)) where
  number : c.number ≡ (verdict_reply_of (answer_of v)).number
  number = ap (λ (x : VerdictReply). x.number) e

  passes : c.number ≡ 0 → answer_of v ≡ pass
  passes z = passed v (sym number ∙ z)

  -- the check's three promises, told by the number
  by_number : (answer_of v ≡ verify_of (chip_of model) rom sheet)
      × (((answer_of v ≡ pass) ↔ Clear (chip_of model) rom sheet) × (answer_of v ≡ pass → Safe (chip_of model) rom sheet))
      → (c ≡ verdict_reply_of (verify_of (chip_of model) rom sheet))
      × (((c.number ≡ 0) ↔ Clear (chip_of model) rom sheet) × (c.number ≡ 0 → Safe (chip_of model) rom sheet))
  by_number p = (
    e ∙ ap verdict_reply_of p.0,
    (
      ((λ z. p.1.0.0 (passes z)), (λ k. number ∙ ap (λ (a : CheckAnswer). (verdict_reply_of a).number) (p.1.0.1 k))),
      (λ z. p.1.1 (passes z)),
    ),
  )

  pub verified : (s : Option Model) → s ≡ Some model
      → (answer_of v ≡ verify_of (chip_of model) rom sheet)
      × (((answer_of v ≡ pass) ↔ Clear (chip_of model) rom sheet) × (answer_of v ≡ pass → Safe (chip_of model) rom sheet))
      → Promised s rom sheet c
  verified s q p = rw q (by_number p)
