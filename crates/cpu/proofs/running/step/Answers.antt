use mathlib.Core.Path.{◌∙◌, ap, refl}
use Rattle.cpu.specs.Run.{Run}
use Rattle.cpu.proofs.Turns.{single}
use Rattle.cpu.proofs.running.step.Goals as goal

pub returns : goal.returns
returns c =
    let g = c.go-one.ensures in
    rw c.join.ensures (record { stepped = g.stepped refl; cost = ap (λ (r : Run). r.count) (g.ran ∙ single _ _ _ _) })
