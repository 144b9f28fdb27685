use Rattle.text.proofs.Texts.{texts}
use Rattle.text.proofs.put_chars_line.Goals as goal

pub returns : goal.returns
returns c = search texts
