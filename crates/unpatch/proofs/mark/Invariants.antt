use Rattle.unpatch.proofs.Ranges.{Marking}
use Rattle.unpatch.proofs.mark.Given as goal

abbrev pub invariant-loop-i : goal.invariant-loop-i
invariant-loop-i l = Marking l.base l.identifiers l.words l.i
