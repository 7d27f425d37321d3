use native.Mathlib.Omega.{arith}
use Rattle.operations.specs.Settings.{settings_of}
use Rattle.operations.proofs.file.set.Goals as goal

pub returns-in-Put : goal.returns-in-Put
unfolding settings_of
returns-in-Put c =
    (rw (c.in-Put.is, c.with_modulo.ensures.0 _, c.low_byte.ensures), λ pulse h n few some. absurd (omega (arith, c.with_modulo.ensures.1, few, some)))
