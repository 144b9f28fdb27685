use Rattle.search.specs.Free.{byte_of, Free}
use Rattle.search.proofs.first_of_few.Given as goal

abbrev pub invariant-loop-i : goal.invariant-loop-i
invariant-loop-i l = Free (byte_of l.s) 0 l.i
