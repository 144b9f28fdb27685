use Rattle.dimmer.proofs.Runs.{Run}
use Rattle.dimmer.proofs.set_run.Given as goal

abbrev pub invariant-loop-i : goal.invariant-loop-i
invariant-loop-i l = Run l.first l.run l.i l.initial.levels l.levels
