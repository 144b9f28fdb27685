use mathlib.Core.Path.{sym, ◌∙◌}
use native.Mathlib.Omega.{arith}
use Rattle.book.proofs.Scan.{pass-start, pass-own, pass-other, pass-clash, pass-end}
use Rattle.book.proofs.meet_behind.Goals as goal

pub loop-i-init : goal.loop-i-init
loop-i-init c = pass-start _ _ c.requires

pub loop-i-preserved-then-same : goal.loop-i-preserved-then-same
loop-i-preserved-then-same c = pass-own c.args.entries.now c.loop-i.invariant (omega arith) (sym c.same.ensures ∙ c.if-same.true)

pub returns-then-shares : goal.returns-then-shares
returns-then-shares c = pass-clash c.args.entries.now c.loop-i.invariant (omega arith)
    (sym c.same.ensures ∙ c.if-same.false)
    (sym c.shares.ensures ∙ c.if-shares.true)

pub loop-i-preserved : goal.loop-i-preserved
loop-i-preserved c = pass-other c.args.entries.now c.loop-i.invariant (omega arith)
    (sym c.same.ensures ∙ c.if-same.false)
    (sym c.shares.ensures ∙ c.if-shares.false)

pub returns : goal.returns
returns c = pass-end c.args.entries.now c.loop-i.invariant (omega arith)
