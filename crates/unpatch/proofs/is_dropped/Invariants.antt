use Rattle.std.proofs.Common.{◌≡◌, ◌≤◌, false}
use Rattle.format.specs.View.{units_of}
use Rattle.patching.specs.Book.{among}
use Rattle.unpatch.proofs.is_dropped.Given as goal

abbrev pub invariant-loop-i : goal.invariant-loop-i
invariant-loop-i l = (l.i ≤ l.n) × (among (units_of l.i l.identifiers) l.identifier ≡ false)
