use Rattle.std.proofs.Common.{◌≡◌, length, take, drop}
use Rattle.format.specs.Fault.{any}
use Rattle.unpatch.specs.Unpatch.{lies_in}
use Rattle.unpatch.proofs.any_within.Given as goal

abbrev pub invariant-loop-x : goal.invariant-loop-x
invariant-loop-x l = any (lies_in l.base) (drop l.x-index (take (length l.entries) l.entries)) ≡ any (lies_in l.base) l.entries
