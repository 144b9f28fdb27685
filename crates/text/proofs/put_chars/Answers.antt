use Rattle.text.proofs.Loops.{ones}
use Rattle.text.proofs.put_chars.Goals as goal

pub returns : goal.returns
returns c = rw (ones c.args.s.now) at c.put_each.ensures
