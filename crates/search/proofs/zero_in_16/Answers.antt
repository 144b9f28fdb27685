use Rattle.search.proofs.Free.{free-none, free_more, free-to}
use native.Mathlib.Omega.{arith}
use mathlib.Core.Path.{sym, ◌∙◌}
use mathlib.Core.Bool.{true≢false}
use Rattle.search.proofs.zero_in_16.Goals as goal
use Rattle.search.proofs.zero_in_16.Goals.{then-s-i-eq0, else-s-i-eq0}

pub loop-j-init : goal.loop-j-init
loop-j-init c = λ z. free-none (omega arith)

pub loop-j-preserved : goal.loop-j-preserved
loop-j-preserved c = elim c.if-s-i-eq0.branch [
  | then-s-i-eq0 w ↦ λ z. absurd (true≢false (sym w.hit-is ∙ z))
  | else-s-i-eq0 w ↦ λ z. free_more (c.loop-j.invariant (sym w.hit-is ∙ z)) w.if-s-i-eq0.false (omega arith)
]

pub returns : goal.returns
returns c = λ z. free-to (c.loop-j.invariant z) (omega arith)
