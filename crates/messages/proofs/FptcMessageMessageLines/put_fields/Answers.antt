use Rattle.lines.proofs.Fields.{fields}
use Rattle.names.proofs.Messages.{fields-case}
use Rattle.fptc.specs.Says.{message_kind, message_view}
use Rattle.messages.proofs.FptcMessageMessageLines.put_fields.Goals as goal

pub returns-in-Ptch : goal.returns-in-Ptch
returns-in-Ptch c = search (fields-case message_kind message_view, fields)

pub returns-in-UPtc : goal.returns-in-UPtc
returns-in-UPtc c = search (fields-case message_kind message_view, fields)

pub returns-in-SPtc : goal.returns-in-SPtc
returns-in-SPtc c = search (fields-case message_kind message_view, fields)
