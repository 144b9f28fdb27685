use Rattle.search.proofs.Free.{free-none, free_more, free-to}
use native.Mathlib.Omega.{arith}
use Rattle.search.proofs.first_of_8.Goals as goal

pub loop-j-init : goal.loop-j-init
loop-j-init c = free-none (omega arith)

pub returns-then-s-i-eq0 : goal.returns-then-s-i-eq0
returns-then-s-i-eq0 c = record { passed = c.loop-j.invariant; within = omega arith; ends = λ h. c.if-s-i-eq0.true }

pub loop-j-preserved : goal.loop-j-preserved
loop-j-preserved c = free_more c.loop-j.invariant c.if-s-i-eq0.false (omega arith)

pub returns : goal.returns
returns c = record { passed = free-to c.loop-j.invariant (omega arith); within = omega arith; ends = λ h. absurd (omega arith) }
