use borrow.Author.Tests.{lt-ltb, le-ltb}
use Rattle.protocol.specs.Step.{content_at}
use Rattle.citp.proofs.packet_report.Goals as goal
use Rattle.citp.proofs.packet_report.Goals.{then-h-gt1-via-then-h-gt1, then-h-gt1-via-else-h-gt1+then-h-gt0}

pub returns-then-h-gt1 : goal.returns-then-h-gt1
unfolding content_at
returns-then-h-gt1 c =
    elim c.then-h-gt1.branch [
      | then-h-gt1-via-then-h-gt1 w ↦ rw (lt-ltb _ _ w.if-h-gt1.true)
      | then-h-gt1-via-else-h-gt1+then-h-gt0 w ↦ rw (le-ltb _ _ w.if-h-gt1.false, lt-ltb _ _ w.if-h-gt0.true)
    ]

pub returns-in_default : goal.returns-in_default
unfolding content_at
returns-in_default c = rw (le-ltb _ _ c.if-h-gt1.false, le-ltb _ _ c.if-h-gt0.false, ← c.in_default.ensures)

pub returns : goal.returns
unfolding content_at
returns c = rw (le-ltb _ _ c.if-h-gt1.false, le-ltb _ _ c.if-h-gt0.false, ← c.in-Some.ensures) c.layer_report.ensures
