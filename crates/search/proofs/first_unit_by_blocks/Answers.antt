use Rattle.search.proofs.Free.{free-join, first-join}
use Rattle.search.proofs.first_unit_by_blocks.Goals as goal

pub returns : goal.returns
returns c = first-join (free-join c.pass_units-n.ensures.passed c.pass_units-n-2.ensures.passed) c.first_unit_one_by_one.ensures
