use Rattle.put.proofs.Bodies.{bodies}
use Rattle.sdmx.proofs.ChannelLevelToBytes.put.Goals as goal

pub returns : goal.returns
returns c = search bodies depth 9
