use Rattle.text.proofs.Texts.{put-coded}
use Rattle.text.proofs.put_coded.Goals as goal

pub returns : goal.returns
returns c = put-coded c.args.unit c.put_char-at.ensures (rw c.from.ensures at c.put_hex_4.ensures)
