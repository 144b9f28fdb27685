use Rattle.lines.proofs.Fields.{fields}
use Rattle.lines.proofs.put_digits.Goals as goal

pub returns : goal.returns
returns c = search fields
