use Rattle.text.proofs.Prints.{put_then}
use Rattle.caex_messages.proofs.put_vector.Goals as goal

pub returns : goal.returns
returns c = search put_then
