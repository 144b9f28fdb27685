use Rattle.std.proofs.Common.{◌∙◌}
use Rattle.put.proofs.Zeros.{zero-any}
use Rattle.put.proofs.holds_zero_unit.Goals as goal

pub returns : goal.returns
returns c = c.contains.ensures.value ∙ zero-any c.args.units.now
