use Rattle.search.proofs.Free.{free-none, free_more, free-to}
use native.Mathlib.Omega.{arith}
use mathlib.Core.Path.{sym, ◌∙◌}
use mathlib.Core.Bool.{true≢false}
use Rattle.search.proofs.zero_in_units.Goals as goal
use Rattle.search.proofs.zero_in_units.Goals.{then-unit_at-eq0, else-unit_at-eq0}

pub loop-j-init : goal.loop-j-init
loop-j-init c = λ z. free-none (omega arith)

pub loop-j-preserved : goal.loop-j-preserved
loop-j-preserved c = elim c.if-unit_at-eq0.branch [
  | then-unit_at-eq0 w ↦ λ z. absurd (true≢false (sym w.hit-is ∙ z))
  | else-unit_at-eq0 w ↦ λ z. free_more (c.loop-j.invariant (sym w.hit-is ∙ z)) (λ e. w.if-unit_at-eq0.false (c.unit_at.ensures ∙ e)) (omega arith)
]

pub returns : goal.returns
returns c = λ z. free-to (c.loop-j.invariant z) (omega arith)
