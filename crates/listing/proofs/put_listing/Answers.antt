use native.Mathlib.Omega.{arith}
use Rattle.listing.proofs.Walks.{walking-none, walking-less, walking-more, walking-end}
use Rattle.listing.proofs.put_listing.Goals as goal
use Rattle.listing.proofs.put_listing.Goals.{in-Ok-None, in-Err}

pub loop-p-init : goal.loop-p-init
loop-p-init c = rw c.new-c.ensures walking-none

pub overflow_add-packets : goal.overflow_add-packets
overflow_add-packets c = omega (arith, c.loop-p.invariant.counted, c.loop-p.invariant.within)

pub loop-p-smaller : goal.loop-p-smaller
loop-p-smaller c = walking-less (rw c.in-Ok-Some.field-0-is at c.in-Ok-Some.ensures) c.loop-p.invariant

pub loop-p-preserved : goal.loop-p-preserved
loop-p-preserved c = walking-more (rw c.in-Ok-Some.field-0-is at c.in-Ok-Some.ensures) c.loop-p.invariant c.put_report-next.ensures

pub returns : goal.returns
returns c = elim c.match-step.branch [
  | in-Ok-None w ↦ walking-end (rw w.in-Ok-None.field-0-is at w.in-Ok-None.ensures) c.loop-p.invariant (rw w.number-is at c.put_end.ensures)
  | in-Err w ↦ walking-end w.in-Err.ensures c.loop-p.invariant (rw (w.number-is, w.number-number.ensures) at c.put_end.ensures)
]
