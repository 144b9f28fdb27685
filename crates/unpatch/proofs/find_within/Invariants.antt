use Rattle.std.proofs.Common.{◌≤◌, length}
use Rattle.unpatch.specs.Unpatch.{identifiers_of}
use Rattle.unpatch.proofs.Found.{Finding}
use Rattle.unpatch.proofs.find_within.Given as goal

abbrev pub invariant-loop-i : goal.invariant-loop-i
invariant-loop-i l = (length l.entries ≤ 256) × Finding l.base (identifiers_of l.identifiers) l.entries l.words l.found l.i
