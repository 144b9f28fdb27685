use Rattle.refusal.proofs.Handed.{handed}
use Rattle.wire.proofs.Reading.{reading}
use Rattle.finf.proofs.Fram.read_from_bytes.Goals as goal

pub returns-in_err-fixture_identifier : goal.returns-in_err-fixture_identifier
returns-in_err-fixture_identifier c = rw (handed c.from_residual.ensures) (search (reading, c.in_err-fixture_identifier.ensures))

pub returns-in_err-frame_filter_count : goal.returns-in_err-frame_filter_count
returns-in_err-frame_filter_count c = rw (handed c.from_residual-in_err-frame_filter_count.ensures) (search (
  reading,
  c.in_ok-fixture_identifier.ensures,
  c.in_err-frame_filter_count.ensures,
))

pub returns-in_err-frame_gobo_count : goal.returns-in_err-frame_gobo_count
returns-in_err-frame_gobo_count c = rw (handed c.from_residual-in_err-frame_gobo_count.ensures) (search (
  reading,
  c.in_ok-fixture_identifier.ensures,
  c.in_ok-frame_filter_count.ensures,
  c.in_err-frame_gobo_count.ensures,
))

pub returns-in_err-frame_names : goal.returns-in_err-frame_names
returns-in_err-frame_names c = rw (handed c.from_residual-in_err-frame_names.ensures) (search (
  reading,
  c.in_ok-fixture_identifier.ensures,
  c.in_ok-frame_filter_count.ensures,
  c.in_ok-frame_gobo_count.ensures,
  c.in_err-frame_names.ensures,
))

pub returns : goal.returns
returns c = search (
  reading,
  c.in_ok-fixture_identifier.ensures,
  c.in_ok-frame_filter_count.ensures,
  c.in_ok-frame_gobo_count.ensures,
  c.in_ok-frame_names.ensures,
)
