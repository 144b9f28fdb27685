use Rattle.search.proofs.Free.{free-none, free_more, free-to}
use native.Mathlib.Omega.{arith}
use Rattle.search.proofs.first_one_by_one.Goals as goal

pub loop-i-init : goal.loop-i-init
loop-i-init c = free-none (omega arith)

pub returns-then-s-i-eq0 : goal.returns-then-s-i-eq0
returns-then-s-i-eq0 c = record { passed = c.loop-i.invariant; within = omega arith; ends = λ h. c.if-s-i-eq0.true }

pub loop-i-preserved : goal.loop-i-preserved
loop-i-preserved c = free_more c.loop-i.invariant c.if-s-i-eq0.false (omega arith)

pub returns : goal.returns
returns c = record { passed = free-to c.loop-i.invariant (omega arith); within = omega arith; ends = λ h. absurd (omega arith) }
