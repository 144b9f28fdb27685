use Rattle.lines.proofs.Fields.{fields}
use Rattle.messages.proofs.put_ptch.Goals as goal

pub returns : goal.returns
returns c = search fields depth 12
