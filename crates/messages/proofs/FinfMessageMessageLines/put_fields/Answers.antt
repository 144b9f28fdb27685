use Rattle.lines.proofs.Fields.{fields}
use Rattle.names.proofs.Messages.{fields-case}
use Rattle.finf.specs.Says.{message_kind, message_view}
use Rattle.messages.proofs.FinfMessageMessageLines.put_fields.Goals as goal

pub returns-in-SFra : goal.returns-in-SFra
returns-in-SFra c = search (fields-case message_kind message_view, fields)

pub returns-in-Fram : goal.returns-in-Fram
returns-in-Fram c = search (fields-case message_kind message_view, fields)
