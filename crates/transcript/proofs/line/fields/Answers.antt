use native.Mathlib.Omega.{arith}
use Rattle.transcript.proofs.Lines.{same_fields_lem}
use Rattle.transcript.proofs.line.fields.Goals as goal

pub returns : goal.returns
returns c =
    let s = c.args in
    same_fields_lem s.pc s.word s.after.now _ _ _ _ (omega arith) c.hex4-from.ensures c.hex4-to.ensures c.hex_digit-levels.ensures c.hex_digit-psw.ensures
