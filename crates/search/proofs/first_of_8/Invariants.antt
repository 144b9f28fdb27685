use Rattle.search.specs.Free.{byte_of, Free}
use Prim.Native.Nat.{◌+◌}
use Rattle.search.proofs.first_of_8.Given as goal

abbrev pub invariant-loop-j : goal.invariant-loop-j
invariant-loop-j l = Free (byte_of l.s) l.i (l.i + l.j)
