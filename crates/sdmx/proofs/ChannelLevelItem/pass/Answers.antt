use Rattle.format.specs.Passed.{room}
use Rattle.format.proofs.Passing.{passed-plain}
use Rattle.protocol.specs.Kind.{channel_level_format}
use Rattle.sdmx.proofs.ChannelLevelItem.pass.Goals as goal

pub returns : goal.returns
unfolding room
returns c = rw (passed-plain channel_level_format (tt, (tt, tt)) c.args.body.now c.args.c.at c.args.n) c.skip_items.ensures
