use Prim.Native.Nat.{◌+◌, ◌*◌}
use mathlib.Core.Path.{◌≡◌}
use native.Mathlib.Omega.{arith}
use Rattle.wire.proofs.Numbers.{joined-4}
use Rattle.wire.proofs.Copying.{number-next, all-numbers, numbers-copied}
use Rattle.wire.proofs.copy_u32s.Goals as goal

pub loop-i-preserved : goal.loop-i-preserved
loop-i-preserved c = let a = c.args in
    let l = c.loop-i in
    let number = joined-4 a.body.now (a.start + 4 * l.i) c.from_le_bytes.ensures in
    number-next 4 a.body.now a.start a.n a.out.now (omega arith) (omega arith) (omega arith) number l.invariant

pub returns : goal.returns
returns c = let a = c.args in
    let l = c.loop-i in
    let e : l.i ≡ a.n = omega arith in
    numbers-copied 4 a.body.now a.start a.n a.out.now (omega arith) (omega arith)
    (all-numbers 4 a.body.now a.start a.n a.out.now e l.invariant)
