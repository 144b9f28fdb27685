use Prim.Native.Nat.{◌-◌}
use lib.ListN.{length}
use Rattle.capabilities.specs.Support.{lacked_by}
use Rattle.capabilities.proofs.Walks.{Walking}
use Rattle.capabilities.proofs.walk.Given as goal

abbrev pub invariant-loop-p : goal.invariant-loop-p
invariant-loop-p l = Walking (lacked_by l.support) l.s l.c.at l.count l.initial.offsets l.offsets

abbrev pub decreases-loop-p : goal.decreases-loop-p
decreases-loop-p l = length l.s - l.c.at
