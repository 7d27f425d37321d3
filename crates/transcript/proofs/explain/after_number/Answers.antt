use Rattle.text.specs.Hex.{hex_digits_of}
use Rattle.transcript.proofs.explain.after_number.Goals as goal

pub returns : goal.returns
unfolding hex_digits_of
returns c = rw (c.hex4-from.ensures, c.hex4-there.ensures, c.hex_digit-held.ensures)
