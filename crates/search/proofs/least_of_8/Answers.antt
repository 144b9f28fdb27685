use Rattle.search.proofs.Free.{rows-least}
use Rattle.search.proofs.least_of_8.Goals as goal

pub returns : goal.returns
returns c = rows-least 4 c.min.ensures c.least_of_4.ensures c.least_of_4-2.ensures
