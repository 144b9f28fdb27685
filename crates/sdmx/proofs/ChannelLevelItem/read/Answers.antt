use Rattle.refusal.proofs.Handed.{handed}
use Rattle.wire.proofs.Reading.{reading}
use Rattle.sdmx.proofs.ChannelLevelItem.read.Goals as goal

pub returns-in_err-universe_index-clause-fields : goal.returns-in_err-universe_index-clause-fields
returns-in_err-universe_index-clause-fields c = rw (handed c.from_residual.ensures) (search (reading, c.in_err-universe_index.ensures))

pub returns-in_err-channel-clause-fields : goal.returns-in_err-channel-clause-fields
returns-in_err-channel-clause-fields c =
    rw (handed c.from_residual-in_err-channel.ensures)
    (search (reading, c.in_ok-universe_index.ensures, c.in_err-channel.ensures))

pub returns-in_err-channel_level-clause-fields : goal.returns-in_err-channel_level-clause-fields
returns-in_err-channel_level-clause-fields c =
    rw (handed c.from_residual-in_err-channel_level.ensures)
    (search (reading, c.in_ok-universe_index.ensures, c.in_ok-channel.ensures, c.in_err-channel_level.ensures))

pub returns-clause-fields : goal.returns-clause-fields
returns-clause-fields c = search (reading, c.in_ok-universe_index.ensures, c.in_ok-channel.ensures, c.in_ok-channel_level.ensures)
