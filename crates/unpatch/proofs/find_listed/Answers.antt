use native.Mathlib.Omega.{arith}
use Rattle.std.proofs.Common.{arith}
use Rattle.unpatch.specs.Unpatch.{identifiers_of}
use Rattle.unpatch.proofs.Found.{found_none}
use Rattle.unpatch.proofs.find_listed.Goals as goal

pub find_within-requires : goal.find_within-requires
find_within-requires c = let a = c.args in
    (omega arith, found_none (identifiers_of a.identifiers.now) a.entries.now)
