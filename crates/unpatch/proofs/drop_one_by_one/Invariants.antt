use Rattle.unpatch.specs.Unpatch.{identifiers_of}
use Rattle.unpatch.proofs.Passes.{Dropping}
use Rattle.unpatch.proofs.drop_one_by_one.Given as goal

abbrev pub invariant-loop-i : goal.invariant-loop-i
invariant-loop-i l = Dropping (identifiers_of l.identifiers) l.initial.entries l.entries l.kept l.i
