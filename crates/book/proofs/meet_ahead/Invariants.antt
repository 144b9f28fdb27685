use Rattle.book.proofs.Scan.{Reached}
use Rattle.book.proofs.meet_ahead.Given as goal

abbrev pub invariant-loop-i : goal.invariant-loop-i
invariant-loop-i l = Reached l.entry l.entries l.hole l.own_count l.i
