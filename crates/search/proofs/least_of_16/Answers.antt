use Rattle.search.proofs.Free.{rows-least}
use Rattle.search.proofs.least_of_16.Goals as goal

pub returns : goal.returns
returns c = rows-least 8 c.min.ensures c.least_of_8.ensures c.least_of_8-2.ensures
