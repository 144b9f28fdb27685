use Rattle.refusal.proofs.Handed.{handed}
use Rattle.wire.proofs.Reading.{reading}
use Rattle.caex.proofs.LaserFeedControl.read_from_bytes.Goals as goal

pub returns-in_err-feed_index : goal.returns-in_err-feed_index
returns-in_err-feed_index c = rw (handed c.from_residual.ensures) (search (reading, c.in_err-feed_index.ensures))

pub returns-in_err-frame_rate : goal.returns-in_err-frame_rate
returns-in_err-frame_rate c = rw (handed c.from_residual-in_err-frame_rate.ensures) (search (reading, c.in_ok-feed_index.ensures, c.in_err-frame_rate.ensures))

pub returns : goal.returns
returns c = search (reading, c.in_ok-feed_index.ensures, c.in_ok-frame_rate.ensures)
