use Rattle.names.proofs.Messages.{put-message}
use Rattle.messages.proofs.put_message.Goals as goal

pub returns : goal.returns
returns g c = put-message (g.M.MessageLines.kind c.args.m) c.name.ensures c.put_chars_line-at.ensures c.put_fields.ensures
