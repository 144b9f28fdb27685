-- The base header's fields.
use Rattle.format.specs.Format.{Value}
use Rattle.protocol.specs.Layer.{header}
use Rattle.header.specs.declared.Header.{Header}

-- in wire order
abbrev pub header_value : Header → Value header
header_value h = (
  h.cookie,
  (
    h.version_major,
    (
      h.version_minor,
      (h.request_index, (h.message_size, (h.message_part_count, (h.message_part, h.content_type)))),
    ),
  ),
)
