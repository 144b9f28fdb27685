use Rattle.lines.proofs.Fields.{fields}
use Rattle.names.proofs.Messages.{fields-case}
use Rattle.fsel.specs.Says.{message_kind, message_view}
use Rattle.messages.proofs.FselMessageMessageLines.put_fields.Goals as goal

pub returns-in-Sele : goal.returns-in-Sele
returns-in-Sele c = search (fields-case message_kind message_view, fields)

pub returns-in-DeSe : goal.returns-in-DeSe
returns-in-DeSe c = search (fields-case message_kind message_view, fields)
