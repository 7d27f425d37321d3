use mathlib.Core.Path.{◌∙◌, ap, refl}
use Rattle.cpu.specs.Run.{Run}
use Rattle.cpu.proofs.Turns.{single}
use Rattle.cpu.proofs.running.step_in_place.Goals as goal

pub returns : goal.returns
returns c =
    let g = c.go.ensures in
    record { stepped = g.stepped refl; cost = ap (λ (r : Run). r.count) (g.ran ∙ single _ _ _ _) }
