use Rattle.put.proofs.Writing.{number-low-4}
use Rattle.put.proofs.put_number_4.Goals as goal

pub returns : goal.returns
returns c = number-low-4 c.put_u32.ensures
