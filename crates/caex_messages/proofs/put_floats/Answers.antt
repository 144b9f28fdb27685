use Rattle.caex_messages.proofs.Floats.{vectors}
use Rattle.caex_messages.proofs.put_floats.Goals as goal

pub returns : goal.returns
returns c = search vectors
