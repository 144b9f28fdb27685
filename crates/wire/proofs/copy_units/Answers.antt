use Prim.Native.Nat.{◌+◌, ◌*◌}
use mathlib.Core.Path.{◌≡◌}
use native.Mathlib.Omega.{arith}
use Rattle.wire.proofs.Numbers.{joined-2, units-numbers}
use Rattle.wire.proofs.Copying.{number-next, all-numbers}
use Rattle.wire.proofs.copy_units.Goals as goal

pub loop-i-preserved : goal.loop-i-preserved
loop-i-preserved c = let a = c.args in
    let l = c.loop-i in
    let unit = joined-2 a.body.now (a.start + 2 * l.i) c.from_le_bytes.ensures in
    number-next 2 a.body.now a.start a.n a.out.now (omega arith) (omega arith) (omega arith) unit l.invariant

pub returns : goal.returns
returns c = let a = c.args in
    let l = c.loop-i in
    let e : l.i ≡ a.n = omega arith in
    rw (units-numbers a.body.now a.start a.n (omega arith)) (all-numbers 2 a.body.now a.start a.n a.out.now e l.invariant)
