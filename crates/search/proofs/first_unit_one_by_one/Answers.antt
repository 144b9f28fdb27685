use Rattle.search.proofs.Free.{free-none, free_more, free-to}
use native.Mathlib.Omega.{arith}
use mathlib.Core.Path.{sym, ◌∙◌}
use Rattle.search.proofs.first_unit_one_by_one.Goals as goal

pub loop-n-init : goal.loop-n-init
loop-n-init c = free-none (omega arith)

pub returns-then-unit_at-eq0 : goal.returns-then-unit_at-eq0
returns-then-unit_at-eq0 c = record { passed = c.loop-n.invariant; within = omega arith; ends = λ h. sym c.unit_at.ensures ∙ c.if-unit_at-eq0.true }

pub loop-n-preserved : goal.loop-n-preserved
loop-n-preserved c = free_more c.loop-n.invariant (λ e. c.if-unit_at-eq0.false (c.unit_at.ensures ∙ e)) (omega arith)

pub returns : goal.returns
returns c = record { passed = free-to c.loop-n.invariant (omega arith); within = omega arith; ends = λ h. absurd (omega arith) }
