use Rattle.std.proofs.Common.{[], ◌∷◌}
use Rattle.unpatch.specs.Unpatch.{Stay}
use Rattle.unpatch.proofs.ahead_of.Given as goal

abbrev pub invariant-loop-i : goal.invariant-loop-i
invariant-loop-i l = Stay (l.dropped ∷ []) l.entries l.i
