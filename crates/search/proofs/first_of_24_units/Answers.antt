use Rattle.search.proofs.Free.{free-none, free_more, free-to}
use native.Mathlib.Omega.{arith}
use mathlib.Core.Path.{sym, ◌∙◌}
use Rattle.search.proofs.first_of_24_units.Goals as goal

pub loop-j-init : goal.loop-j-init
loop-j-init c = free-none (omega arith)

pub returns-then-unit_at-eq0 : goal.returns-then-unit_at-eq0
returns-then-unit_at-eq0 c = record { passed = c.loop-j.invariant; within = omega arith; ends = λ h. sym c.unit_at.ensures ∙ c.if-unit_at-eq0.true }

pub loop-j-preserved : goal.loop-j-preserved
loop-j-preserved c = free_more c.loop-j.invariant (λ e. c.if-unit_at-eq0.false (c.unit_at.ensures ∙ e)) (omega arith)

pub returns : goal.returns
returns c = record { passed = free-to c.loop-j.invariant (omega arith); within = omega arith; ends = λ h. absurd (omega arith) }
