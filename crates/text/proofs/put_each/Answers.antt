use native.Mathlib.Omega.{arith}
use Rattle.text.proofs.Loops.{each_more, each_all}
use Rattle.text.proofs.put_each.Goals as goal

pub loop-byte-preserved : goal.loop-byte-preserved
loop-byte-preserved g c = each_more (omega arith) c.loop-byte.invariant c.put-next.ensures

pub returns : goal.returns
returns g c = each_all (omega arith) c.loop-byte.invariant
