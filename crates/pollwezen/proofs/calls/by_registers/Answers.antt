use mathlib.Core.Path.{◌≡◌, ap}
use mathlib.Core.List.{List}
use Prim.Native.Nat.{ℕ}
use lib.ListN.{length}
use Rattle.peripherals.specs.declared.Peripherals.{Peripherals}
use Rattle.pollwezen.proofs.Places.{read_all}
use borrow.Author.Rules.{rules}
use Rattle.pollwezen.proofs.calls.by_registers.Goals as goal

pub returns : goal.returns
returns c =
    let p : Peripherals = c.args.p in
    let l : length p.registers ≡ 7 = search rules in
    ap (λ (registers : List ℕ). record { registers = registers; modulo = p.modulo; counter = p.counter; divider = p.divider })
    (read_all 7 p.registers l)
