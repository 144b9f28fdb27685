use Rattle.lines.proofs.Fields.{fields}
use Rattle.names.proofs.Messages.{fields-case}
use Rattle.sdmx.specs.Says.{message_kind, message_view}
use Rattle.messages.proofs.SdmxMessageMessageLines.put_fields.Goals as goal

pub returns-in-Capa : goal.returns-in-Capa
returns-in-Capa c = search (fields-case message_kind message_view, fields)

pub returns-in-UNam : goal.returns-in-UNam
returns-in-UNam c = search (fields-case message_kind message_view, fields)

pub returns-in-ChBk : goal.returns-in-ChBk
returns-in-ChBk c = search (fields-case message_kind message_view, fields)

pub returns-in-ChLs : goal.returns-in-ChLs
returns-in-ChLs c = search (fields-case message_kind message_view, fields)

pub returns-in-Sxus : goal.returns-in-Sxus
returns-in-Sxus c = search (fields-case message_kind message_view, fields)
