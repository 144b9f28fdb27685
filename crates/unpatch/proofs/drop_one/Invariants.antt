use Rattle.std.proofs.Common.{[], ◌∷◌}
use Rattle.unpatch.proofs.Passes.{Dropping}
use Rattle.unpatch.proofs.drop_one.Given as goal

abbrev pub invariant-loop-i : goal.invariant-loop-i
invariant-loop-i l = Dropping (l.dropped ∷ []) l.initial.entries l.entries l.kept l.i
