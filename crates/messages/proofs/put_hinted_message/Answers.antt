use Rattle.names.proofs.Messages.{put-hinted}
use Rattle.messages.proofs.put_hinted_message.Goals as goal

pub returns : goal.returns
returns g c =
    put-hinted (g.M.MessageLines.kind c.args.m) c.args.content_hint c.name-name.ensures
    c.put_chars_line-at.ensures c.put_decimal_line-at.ensures c.put_fields.ensures
