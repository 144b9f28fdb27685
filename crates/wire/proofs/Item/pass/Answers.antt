use native.Mathlib.Omega.{arith}
use Rattle.std.proofs.Common.{sym, ◌≡◌, ◌-◌, ◌+◌, ◌∙◌}
use Rattle.format.proofs.Passing.{passed_none, passed-next, passed-stop}
use Rattle.refusal.proofs.Handed.{handed}
use Rattle.wire.proofs.Item.pass.Goals as goal

pub returns-in_err-behind : goal.returns-in_err-behind
returns-in_err-behind g c =
    rw (handed c.from_residual.ensures, ← c.loop.invariant.left)
    (sym (passed-stop g.Self.Item.format _ _ (c.args.n - c.loop.counter) (omega arith) (sym (c.in_err-behind.ensures.fields))))

pub loop-preserved : goal.loop-preserved
loop-preserved g c =
    let more : c.args.n - c.loop.counter - 1 ≡ c.args.n - (c.loop.counter + 1) = omega arith in
    let step = passed-next g.Self.Item.format _ _ (c.args.n - c.loop.counter) (omega arith) (sym (c.in_ok-behind.ensures.fields)) in
    record { within = omega arith; left = rw (← more) (sym step ∙ c.loop.invariant.left) }

pub returns : goal.returns
returns g c =
    let none : c.args.n - c.loop.counter ≡ 0 = omega arith in
    rw (← c.loop.invariant.left, none) (sym (passed_none g.Self.Item.format _ c.loop.end.at))
