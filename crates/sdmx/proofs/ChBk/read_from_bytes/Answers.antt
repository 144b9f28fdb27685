use Rattle.refusal.proofs.Handed.{handed}
use Rattle.wire.proofs.Reading.{reading}
use Rattle.sdmx.proofs.ChBk.read_from_bytes.Goals as goal

pub returns-in_err-blind : goal.returns-in_err-blind
returns-in_err-blind c = rw (handed c.from_residual.ensures) (search (reading, c.in_err-blind.ensures))

pub returns-in_err-universe_index : goal.returns-in_err-universe_index
returns-in_err-universe_index c =
    rw (handed c.from_residual-in_err-universe_index.ensures)
    (search (reading, c.in_ok-blind.ensures, c.in_err-universe_index.ensures))

pub returns-in_err-first_channel : goal.returns-in_err-first_channel
returns-in_err-first_channel c =
    rw (handed c.from_residual-in_err-first_channel.ensures)
    (search (reading, c.in_ok-blind.ensures, c.in_ok-universe_index.ensures, c.in_err-first_channel.ensures))

pub returns-in_err-channel_levels : goal.returns-in_err-channel_levels
returns-in_err-channel_levels c =
    rw (handed c.from_residual-in_err-channel_levels.ensures)
    (search (reading, c.in_ok-blind.ensures, c.in_ok-universe_index.ensures, c.in_ok-first_channel.ensures, c.in_err-channel_levels.ensures))

pub returns : goal.returns
returns c = search (reading, c.in_ok-blind.ensures, c.in_ok-universe_index.ensures, c.in_ok-first_channel.ensures, c.in_ok-channel_levels.ensures)
