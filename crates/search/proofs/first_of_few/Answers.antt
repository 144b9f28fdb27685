use Rattle.search.proofs.Free.{free-none, free_more}
use Rattle.search.proofs.Zero.{counted-here, counted_none}
use native.Mathlib.Omega.{arith}
use mathlib.Core.Path.{refl}
use Rattle.search.proofs.first_of_few.Goals as goal

pub loop-i-init : goal.loop-i-init
loop-i-init c = free-none refl

pub returns-then-s-i-eq0 : goal.returns-then-s-i-eq0
returns-then-s-i-eq0 c = counted-here _ _ c.loop-i.invariant c.loop-i-test.true c.if-s-i-eq0.true

pub loop-i-preserved : goal.loop-i-preserved
loop-i-preserved c = free_more c.loop-i.invariant c.if-s-i-eq0.false (omega arith)

pub returns : goal.returns
returns c = counted_none _ _ c.loop-i.invariant c.loop-i-test.false
