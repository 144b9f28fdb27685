use Rattle.refusal.proofs.Handed.{handed}
use Rattle.wire.proofs.Reading.{reading}
use Rattle.header.proofs.Header.read_from_bytes.Goals as goal

pub returns-in_err-cookie : goal.returns-in_err-cookie
returns-in_err-cookie c = rw (handed c.from_residual.ensures) (search (reading, c.in_err-cookie.ensures))

pub returns-in_err-version_major : goal.returns-in_err-version_major
returns-in_err-version_major c = rw (handed c.from_residual-in_err-version_major.ensures) (search (
  reading,
  c.in_ok-cookie.ensures,
  c.in_err-version_major.ensures,
))

pub returns-in_err-version_minor : goal.returns-in_err-version_minor
returns-in_err-version_minor c = rw (handed c.from_residual-in_err-version_minor.ensures) (search (
  reading,
  c.in_ok-cookie.ensures,
  c.in_ok-version_major.ensures,
  c.in_err-version_minor.ensures,
))

pub returns-in_err-request_index : goal.returns-in_err-request_index
returns-in_err-request_index c = rw (handed c.from_residual-in_err-request_index.ensures) (search (
  reading,
  c.in_ok-cookie.ensures,
  c.in_ok-version_major.ensures,
  c.in_ok-version_minor.ensures,
  c.in_err-request_index.ensures,
))

pub returns-in_err-message_size : goal.returns-in_err-message_size
returns-in_err-message_size c = rw (handed c.from_residual-in_err-message_size.ensures) (search (
  reading,
  c.in_ok-cookie.ensures,
  c.in_ok-version_major.ensures,
  c.in_ok-version_minor.ensures,
  c.in_ok-request_index.ensures,
  c.in_err-message_size.ensures,
))

pub returns-in_err-message_part_count : goal.returns-in_err-message_part_count
returns-in_err-message_part_count c = rw (handed c.from_residual-in_err-message_part_count.ensures) (search (
  reading,
  c.in_ok-cookie.ensures,
  c.in_ok-version_major.ensures,
  c.in_ok-version_minor.ensures,
  c.in_ok-request_index.ensures,
  c.in_ok-message_size.ensures,
  c.in_err-message_part_count.ensures,
) depth 12)

pub returns-in_err-message_part : goal.returns-in_err-message_part
returns-in_err-message_part c = rw (handed c.from_residual-in_err-message_part.ensures) (search (
  reading,
  c.in_ok-cookie.ensures,
  c.in_ok-version_major.ensures,
  c.in_ok-version_minor.ensures,
  c.in_ok-request_index.ensures,
  c.in_ok-message_size.ensures,
  c.in_ok-message_part_count.ensures,
  c.in_err-message_part.ensures,
) depth 12)

pub returns-in_err-content_type : goal.returns-in_err-content_type
returns-in_err-content_type c = rw (handed c.from_residual-in_err-content_type.ensures) (search (
  reading,
  c.in_ok-cookie.ensures,
  c.in_ok-version_major.ensures,
  c.in_ok-version_minor.ensures,
  c.in_ok-request_index.ensures,
  c.in_ok-message_size.ensures,
  c.in_ok-message_part_count.ensures,
  c.in_ok-message_part.ensures,
  c.in_err-content_type.ensures,
) depth 12)

pub returns : goal.returns
returns c = search (
  reading,
  c.in_ok-cookie.ensures,
  c.in_ok-version_major.ensures,
  c.in_ok-version_minor.ensures,
  c.in_ok-request_index.ensures,
  c.in_ok-message_size.ensures,
  c.in_ok-message_part_count.ensures,
  c.in_ok-message_part.ensures,
  c.in_ok-content_type.ensures,
) depth 12
