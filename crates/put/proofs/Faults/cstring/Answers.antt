use Rattle.format.specs.Fault.{holds_zero, over_limit, too_long}
use Rattle.put.proofs.Judging.{or-false}
use Rattle.std.proofs.Common.{refl}
use Rattle.put.proofs.Faults.cstring.Goals as goal

pub returns : goal.returns
unfolding holds_zero over_limit too_long
returns c = rw (c.holds_zero.ensures, or-false c.args.self.long) refl
