use Rattle.text.proofs.Texts.{texts}
use Rattle.text.proofs.put_hex_8.Goals as goal

pub returns : goal.returns
returns c = search texts
