use Rattle.search.proofs.Free.{free-join, first-join, first-free, first-here}
use native.Mathlib.Omega.{arith}
use Rattle.search.proofs.first_by_eights.Goals as goal

pub returns-then-r-i : goal.returns-then-r-i
returns-then-r-i c = first-here c.loop-i.invariant.0 c.first_of_8-r.ensures c.if-r-i.true (omega arith)

pub loop-i-preserved : goal.loop-i-preserved
loop-i-preserved c = (free-join c.loop-i.invariant.0 (first-free c.first_of_8-r.ensures c.if-r-i.false), omega arith)

pub returns : goal.returns
returns c = first-join c.loop-i.invariant.0 c.first_one_by_one.ensures
