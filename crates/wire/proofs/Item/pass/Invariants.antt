use Rattle.std.proofs.Common.{◌-◌, ◌≤◌, ◌≡◌}
use Rattle.format.specs.Passed.{passed}
use Rattle.wire.proofs.Item.pass.Given as goal

abbrev pub invariant-loop : goal.invariant-loop
invariant-loop g l = record {
  within : l.counter ≤ l.n;
  left : passed g.Self.Item.format l.body l.end.at (l.n - l.counter) ≡ passed g.Self.Item.format l.body l.initial.end.at l.n;
}
