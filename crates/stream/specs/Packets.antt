-- The packets of a stream, the report due for each, and packets struck from a list.
use Rattle.std.specs.Prelude.{ℕ, ◌+◌, ◌≤◌, List, [], ◌∷◌, length}
use Rattle.std.proofs.Math.Option.{Option, none, some}
use Rattle.format.specs.Format.{Format, Value, concat_map}
use Rattle.format.specs.Fault.{limit}
use Rattle.protocol.specs.Layer.{Layer, cookie, header_length, hinted, header, request_field, count_field, part_field, layer_field}
use Rattle.protocol.specs.Kind.{layer}
use Rattle.protocol.specs.Step as reported
use Rattle.protocol.specs.Step.{Content, Report}
use Rattle.protocol.specs.Message.{Message, raised}
use Rattle.protocol.specs.Packet.{ValidPacket, Whole, NoLayer, NoKind, HasLayer}
use Rattle.stream.specs.Accepted.{Accepted}

-- a message, the bytes as which it was accepted and the bytes added behind them, the size field raised to match;
-- or a packet's base header and its bytes, for an unknown kind with its layer and content type
pub data Packet : Type 0 where
  message : Message → (accepted added : List ℕ) → Packet
  unknown_layer : Value header → List ℕ → Packet
  unknown_kind : Value header → Layer → (type : ℕ) → List ℕ → Packet
  fragment : Value header → List ℕ → Packet

abbrev pub bytes : Packet → List ℕ
bytes (message m accepted added) = raised accepted added
bytes (unknown_layer h s) = s
bytes (unknown_kind h l type s) = s
bytes (fragment h s) = s

-- what a list of demand 3 holds: messages as the writer accepted them, and unknown packets and fragments, each valid by its base header
abbrev pub Admissible : Packet → Type 0
Admissible (message m accepted added) = Accepted accepted m × (length accepted + length added ≤ limit)
Admissible (unknown_layer h s) = ValidPacket h s × Whole h × NoLayer (layer_field h)
Admissible (unknown_kind h l type s) = ValidPacket h s × Whole h × HasLayer l type h s × NoKind l type
Admissible (fragment h s) = ValidPacket h s × (Whole h → ⊥)

-- packets laid end to end in one slice
abbrev pub stream : List Packet → List ℕ
stream ps = concat_map bytes ps

-- the report due for a packet at an offset
abbrev pub expected : ℕ → Packet → Report Value
expected at (message m accepted added) = record {
  offset = at;
  size = length accepted + length added;
  request = m.request;
  content = reported.message m.kind (at + header_length (layer m.kind)) (hinted (layer m.kind) m.hint) m.value (length added);
}
expected at (unknown_layer h s) = record { offset = at; size = length s; request = request_field h; content = reported.unknown (layer_field h) none }
expected at (unknown_kind h l type s) = record { offset = at; size = length s; request = request_field h; content = reported.unknown (cookie l) (some type) }
expected at (fragment h s) = record { offset = at; size = length s; request = request_field h; content = reported.fragment (part_field h) (count_field h) }

-- ---- packets struck from a list

abbrev pub Strikable : Packet → Type 0
Strikable (message m accepted added) = ⊥
Strikable (unknown_layer h s) = Unit {0}
Strikable (unknown_kind h l type s) = Unit {0}
Strikable (fragment h s) = Unit {0}

-- the second list is the first with some unknown packets and fragments struck
pub data Struck : List Packet → List Packet → Type 0 where
  none_left : Struck [] []
  kept : (p : Packet) {ps qs : List Packet} → Struck ps qs → Struck (p ∷ ps) (p ∷ qs)
  struck_out : (p : Packet) {ps qs : List Packet} → Strikable p → Struck ps qs → Struck (p ∷ ps) qs

-- a message's report but for its offsets; nothing of other reports
abbrev if_message : {Fields : Format → Type 0} → (extent request : ℕ) → Content Fields → Option (Report Fields)
if_message extent request (reported.message k start hint v added) =
    some (record { offset = 0; size = extent; request = request; content = reported.message k 0 hint v added })
if_message extent request (reported.unknown c t) = none
if_message extent request (reported.fragment p n) = none
if_message extent request (reported.refusal n) = none

abbrev pub message_alike : {Fields : Format → Type 0} → Report Fields → Option (Report Fields)
message_alike r = if_message r.size r.request r.content
