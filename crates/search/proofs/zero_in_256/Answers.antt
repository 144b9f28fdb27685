use borrow.Author.Count.{below_more}
use Rattle.search.proofs.Free.{free-rows}
use native.Mathlib.Omega.{arith}
use mathlib.Core.Path.{sym, ◌∙◌}
use mathlib.Core.Bool.{true≢false}
use Rattle.search.proofs.zero_in_256.Goals as goal
use Rattle.search.proofs.zero_in_256.Goals.{then-least_of_16-eq0, else-least_of_16-eq0}

pub loop-j-init : goal.loop-j-init
loop-j-init c = λ z k p. absurd (omega arith)

pub loop-j-preserved : goal.loop-j-preserved
loop-j-preserved c = elim c.if-least_of_16-eq0.branch [
  | then-least_of_16-eq0 w ↦ λ z k p. absurd (true≢false (sym w.hit-is ∙ z))
  | else-least_of_16-eq0 w ↦ λ z. below_more _ _ (c.loop-j.invariant (sym w.hit-is ∙ z)) (c.least_of_16.ensures w.if-least_of_16-eq0.false)
]

pub returns : goal.returns
returns c = λ z. free-rows 16 _ (λ k p. c.loop-j.invariant z k (omega arith))
