use Rattle.lines.proofs.Fields.{fields}
use Rattle.caex_messages.proofs.put_feed_list.Goals as goal

pub returns : goal.returns
returns c = search fields
