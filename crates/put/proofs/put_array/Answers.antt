use native.Mathlib.Omega.{arith}
use Rattle.std.proofs.Common.{sym}
use Rattle.put.proofs.Writing.{sets-more}
use Rattle.put.proofs.put_array.Goals as goal

pub loop-i-preserved : goal.loop-i-preserved
loop-i-preserved g c = let m = sets-more c.args.out.now c.args.bytes c.args.at c.loop-i.i (omega arith) in rw (c.loop-i.invariant) (sym m)
