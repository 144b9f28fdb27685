use Rattle.lines.proofs.Fields.{fields}
use Rattle.names.proofs.Messages.{fields-case}
use Rattle.pinf.specs.Says.{message_kind, message_view}
use Rattle.messages.proofs.PinfMessageMessageLines.put_fields.Goals as goal

pub returns-in-PNam : goal.returns-in-PNam
returns-in-PNam c = search (fields-case message_kind message_view, fields)

pub returns-in-PLoc : goal.returns-in-PLoc
returns-in-PLoc c = search (fields-case message_kind message_view, fields)
