use Rattle.format.specs.Format.{number}
use Rattle.format.specs.Passed.{room}
use Rattle.format.proofs.Passing.{passed-plain}
use Rattle.wire.proofs.U32Item.pass.Goals as goal

pub returns : goal.returns
unfolding room
returns c = rw (passed-plain (number 4) tt c.args.body.now c.args.c.at c.args.n) c.skip_items.ensures
