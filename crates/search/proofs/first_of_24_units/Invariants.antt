use Rattle.search.specs.Free.{unit_of, Free}
use Rattle.search.proofs.first_of_24_units.Given as goal

abbrev pub invariant-loop-j : goal.invariant-loop-j
invariant-loop-j l = Free (unit_of l.s l.at) 0 l.j
