use Rattle.std.proofs.Common.{◌≡◌, ◌+◌, ◌-◌, ◌*◌, ◌%◌, ◌^◌, ◌<◌, arith}
use Rattle.std.proofs.Math.Pow.{pow-lt}
use Rattle.laws.proofs.Wrap.{cut}
use Rattle.memory.proofs.registers.next.Goals as goal

pub returns : goal.returns
returns g c =
    let bits = g.row.BITS in
    let more : (16 - bits) + bits ≡ 16 = omega arith in
    let small : 2 ^ bits < 65536 = pow-lt {j = 16} (omega arith) in
    let shifted : 1 * 2 ^ bits % 65536 ≡ 2 ^ bits = omega (arith, small) in
    rw shifted (rw more at (cut bits c.args.x (16 - bits)))
