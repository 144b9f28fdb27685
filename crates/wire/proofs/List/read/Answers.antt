use Rattle.std.proofs.Common.{sym}
use Rattle.format.proofs.Passing.{list-there, list-off, list-short}
use Rattle.refusal.proofs.Handed.{handed}
use Rattle.wire.proofs.List.read.Goals as goal

pub returns-in_err-left : goal.returns-in_err-left
returns-in_err-left g c = rw (handed c.from_residual.ensures) (sym (list-short g.T.Item.format g.N.Count.width _ _ (sym (c.in_err-left.ensures))))

pub returns-in_err-end : goal.returns-in_err-end
returns-in_err-end g c =
    let passed = rw c.items.ensures at c.in_err-end.ensures in
    rw (handed c.from_residual-in_err-end.ensures) (sym (list-off g.T.Item.format g.N.Count.width _ _ (sym (c.in_ok-left.ensures)) (sym passed)))

pub returns : goal.returns
returns g c =
    let passed = rw c.items.ensures at c.in_ok-end.ensures in
    rw (c.new.ensures.place, c.new.ensures.count) (sym (list-there g.T.Item.format g.N.Count.width _ _ (sym (c.in_ok-left.ensures)) (sym passed)))
