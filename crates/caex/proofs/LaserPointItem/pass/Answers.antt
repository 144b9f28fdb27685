use Rattle.format.specs.Passed.{room}
use Rattle.format.proofs.Passing.{passed-plain}
use Rattle.protocol.specs.Kind.{laser_point_format}
use Rattle.caex.proofs.LaserPointItem.pass.Goals as goal

pub returns : goal.returns
unfolding room
returns c = rw (passed-plain laser_point_format (tt, (tt, (tt, tt))) c.args.body.now c.args.c.at c.args.n) c.skip_items.ensures
