use Rattle.lines.proofs.Fields.{fields}
use Rattle.messages.proofs.LevelLinesItemLinesChannelLevel.put.Goals as goal

pub returns : goal.returns
returns c = search fields
