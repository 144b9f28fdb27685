use Rattle.search.proofs.Free.{rows-least}
use Rattle.search.proofs.least_of_4.Goals as goal

pub returns : goal.returns
returns c = rows-least 2 c.min.ensures c.least_of_2.ensures c.least_of_2-2.ensures
