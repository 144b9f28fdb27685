-- A message, and the packet in which it is sent.
use Rattle.std.specs.Prelude.{ℕ, ◌+◌, ◌<◌, ◌≤◌, List, ◌++◌, length}
use Rattle.std.proofs.lemmas.List.Edits.{sets}
use Rattle.format.specs.Format.{number, Value, encode, size, Valid}
use Rattle.format.specs.Fault.{limit}
use Rattle.protocol.specs.Layer.{Layer, cookie, header_length, header, citp, layer_header}
use Rattle.protocol.specs.Kind.{Kind, layer, content_type, body_of}

-- a kind, request_index, content_hint, which is not sent outside FPTC, and the values of the body's fields
pub record Message : Type 0 where
  pub kind : Kind
  pub request : ℕ
  pub hint : ℕ
  pub value : Value (body_of kind)

-- the base header as it is written: major 1, minor 0, count 1, part 0
abbrev pub header_of : Layer → (size request : ℕ) → Value header
header_of l size request = (citp, (1, (0, (request, (size, (1, (0, cookie l)))))))

-- the headers of a kind, with a size field
unfoldable pub headers_of : (k : Kind) (size request hint : ℕ) → List ℕ
headers_of k size request hint = encode header (header_of (layer k) size request) ++ encode (layer_header (layer k)) (content_type k, hint)

unfoldable pub packet_size : Message → ℕ
packet_size m = header_length (layer m.kind) + size (body_of m.kind) m.value

-- a message's bytes, the size field their count
unfoldable pub packet : Message → List ℕ
unfolding headers_of packet_size
packet m = headers_of m.kind (packet_size m) m.request m.hint ++ encode (body_of m.kind) m.value

-- what can be sent: numbers that fit, strings without a zero and within their limits, lists that fit their counts, a packet within its own
pub record Sendable (m : Message) : Type 0 where
  pub request_fits : m.request < 65536
  pub hint-fits : m.hint < 4294967296
  pub valid : Valid (body_of m.kind) m.value
  pub within : packet_size m ≤ limit

-- a packet with bytes added behind it, its size field raised to match
abbrev pub raised : (packet added : List ℕ) → List ℕ
raised packet added = sets (packet ++ added) 8 (encode (number 4) (length packet + length added))
