use Prim.Native.Nat.{◌+◌, ◌*◌}
use mathlib.Core.Path.{◌≡◌}
use native.Mathlib.Omega.{arith}
use lib.ListN.{get_or}
use Rattle.text.proofs.Loops.{units-more, units-all}
use Rattle.text.proofs.put_escaped_units.Goals as goal

pub loop-i-preserved : goal.loop-i-preserved
loop-i-preserved c =
    let i = c.loop-i.i in
    let s = c.args.s.now in
    let unit : c.from_le_bytes-unit.result ≡ get_or s (2 * i) 0 + 256 * get_or s (2 * i + 1) 0 = omega (arith, c.from_le_bytes-unit.ensures) in
    units-more (omega arith) (omega arith) c.loop-i.invariant (rw unit at c.put_escape-next.ensures)

pub returns : goal.returns
returns c = units-all (omega arith) c.loop-i.invariant
