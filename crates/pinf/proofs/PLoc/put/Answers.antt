use Rattle.put.proofs.Bodies.{bodies}
use Rattle.pinf.proofs.PLoc.put.Goals as goal

pub returns : goal.returns
returns c = search bodies depth 9
