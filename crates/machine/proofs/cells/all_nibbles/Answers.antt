use Rattle.std.proofs.Common.{◌≡◌, rules, ℕ}
use Rattle.std.specs.List.{fold}
use lib.Bits.{bit_or}
use Rattle.machine.proofs.Nibbles.{all_joined}
use Rattle.machine.proofs.cells.all_nibbles.Goals as goal

pub returns : goal.returns
returns c =
    let e : c.fold.result ≡ fold (λ (a : ℕ) (x : ℕ). bit_or a x) 0 c.args.cells.now = search rules in
    rw e (all_joined c.args.cells.now 128 c.told-cells)
