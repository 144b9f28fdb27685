use Rattle.lines.proofs.Fields.{fields}
use Rattle.caex_messages.proofs.CaexLinesItemLinesUcs2.put.Goals as goal

pub returns : goal.returns
returns c = search fields
