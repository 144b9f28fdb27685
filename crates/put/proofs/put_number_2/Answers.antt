use Rattle.put.proofs.Writing.{number-low-2}
use Rattle.put.proofs.put_number_2.Goals as goal

pub returns : goal.returns
returns c = number-low-2 c.put_u16.ensures
