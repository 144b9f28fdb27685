use Rattle.lines.proofs.Fields.{fields}
use Rattle.messages.proofs.put_universe.Goals as goal

pub returns : goal.returns
returns c = search fields
