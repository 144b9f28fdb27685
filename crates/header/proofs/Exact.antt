-- A header's fields determine it: nothing is lost.
use Rattle.std.proofs.Common.{◌≡◌, refl}
use Rattle.format.specs.Format.{Value}
use Rattle.protocol.specs.Layer as layer
use Rattle.header.specs.Says.{header_value}
use Rattle.header.specs.declared.Header.{Header}

abbrev header_of : Value layer.header → Header
header_of (a, (b, (d, (f, (g, (h, (i, j))))))) =
    record { cookie = a; version_major = b; version_minor = d; request_index = f; message_size = g; message_part_count = h; message_part = i; content_type = j }

pub header_value-exact : (h : Header) → h ≡ header_of (header_value h)
header_value-exact h = refl
