use Rattle.book.proofs.Scan.{Passed}
use Rattle.book.proofs.meet_behind.Given as goal

abbrev pub invariant-loop-i : goal.invariant-loop-i
invariant-loop-i l = Passed l.entry l.entries l.place l.i
