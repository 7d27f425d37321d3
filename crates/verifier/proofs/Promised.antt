-- What the check promises, from its answer alone.
-- Assumes nothing.
use mathlib.Core.Path.{◌≡◌, ◌∙◌, sym}
use mathlib.Core.List.{List}
use mathlib.Core.Logic.{◌↔◌}
use Prim.Native.Nat.{ℕ}
use Rattle.memory.specs.Chip.{chip_of}
use Rattle.memory.specs.declared.Model.{Model}
use Rattle.clearance.specs.Safe.{Safe}
use Rattle.verifier.specs.Verdict.{CheckAnswer, pass, verify_of, Clear}
use Rattle.verifier.proofs.Exact.{exactly}
use Rattle.clearance.proofs.Safety.{safe}

module _ (model : Model) (rom sheet : List ℕ) (a : CheckAnswer) (q : a ≡ verify_of (chip_of model) rom sheet) where
  clear : a ≡ pass → Clear (chip_of model) rom sheet
  clear e = (exactly (chip_of model) rom sheet).0 (sym q ∙ e)

  pub promised : (a ≡ verify_of (chip_of model) rom sheet)
      × (((a ≡ pass) ↔ Clear (chip_of model) rom sheet) × (a ≡ pass → Safe (chip_of model) rom sheet))
  promised = (
    q,
    ((clear, (λ c. q ∙ (exactly (chip_of model) rom sheet).1 c)), (λ e. safe model rom sheet (clear e).whole (clear e).rules)),
  )
