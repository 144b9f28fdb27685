use Rattle.search.proofs.Free.{row_one, rows-least}
use Rattle.search.proofs.least_of_2.Goals as goal

pub returns : goal.returns
returns c = rows-least 1 c.min.ensures (row_one _ _) (row_one _ _)
