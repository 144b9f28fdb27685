use Rattle.lines.proofs.Fields.{fields}
use Rattle.lines.proofs.put_block.Goals as goal

pub returns : goal.returns
returns c = search fields
