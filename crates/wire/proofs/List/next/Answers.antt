use native.Mathlib.Omega.{arith}
use Rattle.std.proofs.Common.{sym, ◌≡◌, ◌-◌}
use Rattle.refusal.proofs.Handed.{handed}
use Rattle.wire.proofs.Stepping.{next-done, next-item, next-off}
use Rattle.wire.proofs.List.next.Goals as goal

pub returns-in_default-clause-fields : goal.returns-in_default-clause-fields
returns-in_default-clause-fields g c = next-done g.T.Item.format _ _ _ (c.in_default.ensures)

pub returns-in_err-x-clause-fields : goal.returns-in_err-x-clause-fields
returns-in_err-x-clause-fields g c =
    rw (handed c.from_residual.ensures)
    (next-off g.T.Item.format _ _ _ (omega (arith, c.in-Some.ensures)) (sym (c.in_err-x.ensures.fields)))

pub returns-clause-fields : goal.returns-clause-fields
returns-clause-fields g c =
    let one : g.N.Count.number c.args.self.left - 1 ≡ g.N.Count.number c.in-Some.left = omega (arith, c.in-Some.ensures) in
    rw (c.new.ensures.place, c.new.ensures.count, ← one)
    (next-item g.T.Item.format _ _ _ (omega (arith, c.in-Some.ensures)) (sym (c.in_ok-x.ensures.fields)))
