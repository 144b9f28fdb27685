use Rattle.search.proofs.Free.{free-join}
use native.Mathlib.Omega.{arith}
use Rattle.search.proofs.pass_units.Goals as goal

pub loop-n-preserved : goal.loop-n-preserved
loop-n-preserved c = (free-join c.loop-n.invariant.0 (c.zero_in_units.ensures c.if-zero_in_units.false), omega arith)
