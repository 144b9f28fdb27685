use Rattle.text.proofs.Loops.{Units}
use Rattle.text.proofs.put_escaped_units.Given as goal

abbrev pub invariant-loop-i : goal.invariant-loop-i
invariant-loop-i l = Units l.from l.s l.n l.i l.next l.out l.at l.initial.out
