use Rattle.lines.proofs.Fields.{strings}
use Rattle.lines.proofs.put_cstring.Goals as goal

pub returns : goal.returns
returns c = search strings
