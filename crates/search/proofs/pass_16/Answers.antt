use Rattle.search.proofs.Free.{free-join}
use native.Mathlib.Omega.{arith}
use Rattle.search.proofs.pass_16.Goals as goal

pub loop-i-preserved : goal.loop-i-preserved
loop-i-preserved c = (free-join c.loop-i.invariant.0 (c.zero_in_16.ensures c.if-zero_in_16.false), omega arith)
