use Rattle.search.specs.Free.{unit_of, Free}
use lib.ListN.{length}
use Prim.Native.Nat.{◌≤◌, ◌-◌, ◌+◌, ◌*◌}
use Rattle.search.proofs.pass_units.Given as goal

abbrev pub invariant-loop-n : goal.invariant-loop-n
invariant-loop-n l = Free (unit_of l.s l.at) l.from l.n × (l.at + 2 * l.n ≤ length l.s)

abbrev pub decreases-loop-n : goal.decreases-loop-n
decreases-loop-n l = length l.s - (l.at + 2 * l.n)
