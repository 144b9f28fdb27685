use mathlib.Core.Path.{sym, ◌∙◌}
use native.Mathlib.Omega.{arith}
use Rattle.book.proofs.Scan.{as-far, reach-start, reach-own, reach-other, reach-before, reach-clash, reach-end}
use Rattle.book.proofs.meet_ahead.Goals as goal

pub loop-i-init : goal.loop-i-init
loop-i-init c = reach-start c.args.entry c.args.entries.now

pub overflow_add-own_count : goal.overflow_add-own_count
overflow_add-own_count c = omega (arith, as-far c.args.entries.now c.loop-i.invariant)

pub loop-i-preserved-then-same : goal.loop-i-preserved-then-same
loop-i-preserved-then-same c = reach-own c.args.entries.now c.loop-i.invariant (omega arith) (sym c.same.ensures ∙ c.if-same.true)

pub returns-then-before : goal.returns-then-before
returns-then-before c = reach-before c.args.entries.now c.loop-i.invariant (omega arith)
    (sym c.same.ensures ∙ c.if-same.false)
    (sym c.before-in-loop-i.ensures ∙ c.if-before.true)

pub returns-then-shares : goal.returns-then-shares
returns-then-shares c = reach-clash c.args.entries.now c.loop-i.invariant (omega arith)
    (sym c.same.ensures ∙ c.if-same.false)
    (sym c.shares.ensures ∙ c.if-shares.true)

pub loop-i-preserved : goal.loop-i-preserved
loop-i-preserved c = reach-other c.args.entries.now c.loop-i.invariant (omega arith)
    (sym c.same.ensures ∙ c.if-same.false)
    (sym c.before-in-loop-i.ensures ∙ c.if-before.false)
    (sym c.shares.ensures ∙ c.if-shares.false)

pub returns : goal.returns
returns c = reach-end c.args.entries.now c.loop-i.invariant (omega arith)
