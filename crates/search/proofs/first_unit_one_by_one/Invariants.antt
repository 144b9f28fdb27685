use Rattle.search.specs.Free.{unit_of, Free}
use Rattle.search.proofs.first_unit_one_by_one.Given as goal

abbrev pub invariant-loop-n : goal.invariant-loop-n
invariant-loop-n l = Free (unit_of l.s l.at) l.from l.n
