use Rattle.capabilities.specs.Support.{lacked_by}
use Rattle.capabilities.proofs.Walks.{walks, walking-pass, walking-take}
use Rattle.capabilities.proofs.walk.Goals as goal

pub loop-p-init : goal.loop-p-init
loop-p-init c = search walks

pub loop-p-smaller-then-lacks : goal.loop-p-smaller-then-lacks
loop-p-smaller-then-lacks c = search (walks, c.in-Ok-Some.ensures)

-- an offset stored and counted
pub loop-p-preserved-then-lacks : goal.loop-p-preserved-then-lacks
loop-p-preserved-then-lacks c =
    let x = c.in-Ok-Some in
    let e = rw x.field-0-is at x.ensures in
    walking-take (lacked_by c.args.support) c.args.s.now c.loop-p.c x.p x.next e _ _ _ c.loop-p.invariant _ c.lacks.ensures c.if-lacks.true _ c.store.ensures

pub loop-p-smaller : goal.loop-p-smaller
loop-p-smaller c = search (walks, c.in-Ok-Some.ensures)

pub loop-p-preserved : goal.loop-p-preserved
loop-p-preserved c =
    let x = c.in-Ok-Some in
    let e = rw x.field-0-is at x.ensures in
    walking-pass (lacked_by c.args.support) c.args.s.now c.loop-p.c x.p x.next e _ _ _ c.loop-p.invariant _ c.lacks.ensures c.if-lacks.false

pub returns-in-Ok-None-clause-count_value : goal.returns-in-Ok-None-clause-count_value
returns-in-Ok-None-clause-count_value c = search (walks, c.in-Ok-None.ensures)

pub returns-in-Ok-None-clause-end_value : goal.returns-in-Ok-None-clause-end_value
returns-in-Ok-None-clause-end_value c = search (walks, c.in-Ok-None.ensures)

pub returns-in-Ok-None-clause-offsets_after : goal.returns-in-Ok-None-clause-offsets_after
returns-in-Ok-None-clause-offsets_after c = search (walks, c.in-Ok-None.ensures)

pub returns-in-Err-clause-count_value : goal.returns-in-Err-clause-count_value
returns-in-Err-clause-count_value c = search (walks, c.in-Err.ensures)

pub returns-in-Err-clause-end_value : goal.returns-in-Err-clause-end_value
returns-in-Err-clause-end_value c = search (walks, c.in-Err.ensures)

pub returns-in-Err-clause-offsets_after : goal.returns-in-Err-clause-offsets_after
returns-in-Err-clause-offsets_after c = search (walks, c.in-Err.ensures)
