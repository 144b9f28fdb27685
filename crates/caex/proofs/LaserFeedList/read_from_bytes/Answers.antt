use Rattle.refusal.proofs.Handed.{handed}
use Rattle.wire.proofs.Reading.{reading}
use Rattle.caex.proofs.LaserFeedList.read_from_bytes.Goals as goal

pub returns-in_err-source_key : goal.returns-in_err-source_key
returns-in_err-source_key c = rw (handed c.from_residual.ensures) (search (reading, c.in_err-source_key.ensures))

pub returns-in_err-feed_names : goal.returns-in_err-feed_names
returns-in_err-feed_names c = rw (handed c.from_residual-in_err-feed_names.ensures) (search (reading, c.in_ok-source_key.ensures, c.in_err-feed_names.ensures))

pub returns : goal.returns
returns c = search (reading, c.in_ok-source_key.ensures, c.in_ok-feed_names.ensures)
