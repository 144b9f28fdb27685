use Rattle.search.specs.Free.{byte_of, Free}
use Prim.Native.Nat.{◌≤◌, ◌-◌}
use Rattle.search.proofs.first_by_eights.Given as goal

abbrev pub invariant-loop-i : goal.invariant-loop-i
invariant-loop-i l = Free (byte_of l.s) l.from l.i × (l.i ≤ l.stop)

abbrev pub decreases-loop-i : goal.decreases-loop-i
decreases-loop-i l = l.stop - l.i
