use mathlib.Core.Path.{refl}
use native.Mathlib.Omega.{arith}
use Rattle.transcript.proofs.Puts.{copied}
use Rattle.transcript.proofs.Sink.put.Goals as goal

pub returns : goal.returns
returns c =
    let s = c.args.self.now in
    let fits = c.min-fits.ensures in
    let after = c.copy_from_slice.ensures.after in
    let e = copied c.args.text.now s.out.now c.copy_from_slice.new.self s.at c.min-from.result c.min-fits.result c.min-from.ensures fits after in
    record {
      same_buffer = refl;
      put = λ h. (e, omega (arith, h, c.saturating_add-self.ensures));
      short = omega arith;
    }
