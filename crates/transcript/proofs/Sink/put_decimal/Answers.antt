use Rattle.transcript.proofs.Puts.{reworded, shorter}
use mathlib.Core.Path.{◌∙◌}
use Rattle.transcript.proofs.Sink.put_decimal.Goals as goal

pub returns : goal.returns
returns g c =
    let e = c.as_bytes.ensures.value ∙ c.format.ensures.text in
    reworded e (shorter _ (rw c.as_bytes.ensures.value c.format.ensures.fits) c.put.ensures)
