use mathlib.Core.Path.{◌≡◌, ap}
use mathlib.Core.List.{List}
use Prim.Native.Nat.{ℕ}
use lib.ListN.{length}
use Rattle.machine.specs.declared.Control.{Control}
use Rattle.pollwezen.proofs.Places.{read_all}
use borrow.Author.Rules.{rules}
use Rattle.pollwezen.proofs.calls.by_fields.Goals as goal

pub returns : goal.returns
returns c =
    let k : Control = c.args.control in
    let l : length k.stack ≡ 5 = search rules in
    ap (λ (stack : List ℕ). record { pc = k.pc; stack = stack; levels = k.levels; skip = k.skip; standby = k.standby })
    (read_all 5 k.stack l)
