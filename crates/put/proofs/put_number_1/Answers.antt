use Rattle.put.proofs.Writing.{number-low-1}
use Rattle.put.proofs.put_number_1.Goals as goal

pub returns : goal.returns
returns c = number-low-1 c.put_u8.ensures
