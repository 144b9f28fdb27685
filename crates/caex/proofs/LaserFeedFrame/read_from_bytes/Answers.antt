use Rattle.refusal.proofs.Handed.{handed}
use Rattle.wire.proofs.Reading.{reading}
use Rattle.caex.proofs.LaserFeedFrame.read_from_bytes.Goals as goal

pub returns-in_err-source_key : goal.returns-in_err-source_key
returns-in_err-source_key c = rw (handed c.from_residual.ensures) (search (reading, c.in_err-source_key.ensures))

pub returns-in_err-feed_index : goal.returns-in_err-feed_index
returns-in_err-feed_index c = rw (handed c.from_residual-in_err-feed_index.ensures) (search (reading, c.in_ok-source_key.ensures, c.in_err-feed_index.ensures))

pub returns-in_err-frame_sequence : goal.returns-in_err-frame_sequence
returns-in_err-frame_sequence c =
    rw (handed c.from_residual-in_err-frame_sequence.ensures)
    (search (reading, c.in_ok-source_key.ensures, c.in_ok-feed_index.ensures, c.in_err-frame_sequence.ensures))

pub returns-in_err-points : goal.returns-in_err-points
returns-in_err-points c =
    rw (handed c.from_residual-in_err-points.ensures)
    (search (reading, c.in_ok-source_key.ensures, c.in_ok-feed_index.ensures, c.in_ok-frame_sequence.ensures, c.in_err-points.ensures))

pub returns : goal.returns
returns c = search (reading, c.in_ok-source_key.ensures, c.in_ok-feed_index.ensures, c.in_ok-frame_sequence.ensures, c.in_ok-points.ensures) depth 6
