-- What the walk's answers say.
use Rattle.std.specs.Prelude.{ℕ, ◌+◌, ◌-◌, List, length, take, drop, Result, Ok, Err, Option, Some, None}
use Rattle.std.proofs.Math.Option as math
use Rattle.format.specs.View.{View}
use Rattle.format.specs.Walk.{stop, report}
use Rattle.format.specs.Walk as walk
use Rattle.protocol.specs.Layer as layer
use Rattle.protocol.specs.Kind as kind
use Rattle.protocol.specs.Step as spec
use Rattle.pinf.specs.Says as pinf
use Rattle.sdmx.specs.Says as sdmx
use Rattle.fptc.specs.Says as fptc
use Rattle.fsel.specs.Says as fsel
use Rattle.finf.specs.Says as finf
use Rattle.caex.specs.Says as caex
use Rattle.refusal.specs.Number.{number}
use Rattle.refusal.specs.declared.Refusal.{Refusal}
use Rattle.citp.specs.declared.LayerHeader.{LayerHeader}
use Rattle.citp.specs.declared.Message.{Message}
use Rattle.citp.specs.declared.Report.{Report}
use Rattle.citp.specs.declared.PacketReport.{PacketReport}
use Rattle.citp.specs.declared.Cursor.{Cursor}
use Rattle.citp.specs.declared.Message.TheVariants as message
use Rattle.citp.specs.declared.Report.TheVariants as content

-- a layer header's fields
abbrev pub layer_header_value : LayerHeader → ℕ × ℕ
layer_header_value h = (h.content_type, h.content_hint)

-- a body of a packet of a layer, which starts at an offset of the stream
abbrev pub content_in : layer.Layer → LayerHeader → (at : ℕ) → List ℕ → spec.Content View
content_in l h at body =
    spec.content_of l (at + layer.header_length l) (length body) h.content_type h.content_hint (spec.read_body l h.content_type body)

-- a message's kind, its fields and its content hint
abbrev pub message_kind : Message → kind.Kind
message_kind (message.Pinf m) = pinf.message_kind m
message_kind (message.Sdmx m) = sdmx.message_kind m
message_kind (message.Fptc m hint) = fptc.message_kind m
message_kind (message.Fsel m) = fsel.message_kind m
message_kind (message.Finf m) = finf.message_kind m
message_kind (message.Caex m) = caex.message_kind m

abbrev pub message_view : (m : Message) → View (kind.body_of (message_kind m))
message_view (message.Pinf m) = pinf.message_view m
message_view (message.Sdmx m) = sdmx.message_view m
message_view (message.Fptc m hint) = fptc.message_view m
message_view (message.Fsel m) = fsel.message_view m
message_view (message.Finf m) = finf.message_view m
message_view (message.Caex m) = caex.message_view m

abbrev pub message_hint : Message → math.Option ℕ
message_hint (message.Pinf m) = math.none
message_hint (message.Sdmx m) = math.none
message_hint (message.Fptc m hint) = math.some hint
message_hint (message.Fsel m) = math.none
message_hint (message.Finf m) = math.none
message_hint (message.Caex m) = math.none

abbrev pub report_says : Report → spec.Content View
report_says (content.Message m start added) = spec.message (message_kind m) start (message_hint m) (message_view m) added
report_says (content.UnknownLayer c) = spec.unknown c math.none
report_says (content.UnknownKind c type) = spec.unknown c (math.some type)
report_says (content.Fragment part count) = spec.fragment part count
report_says (content.Refused n) = spec.refusal n

abbrev pub packet_says : PacketReport → spec.Report View
packet_says r = record { offset = r.offset; size = r.size; request = r.request_index; content = report_says r.report }

-- a step at an offset, by what tells why it stops: the walk ends there where no packet is reported
abbrev pub step_told : {R : Type 0} → (R → ℕ) → (at : ℕ) → Result (Option (PacketReport × Cursor)) R → walk.Step (spec.Report View)
step_told told at (Ok (Some x)) = report (packet_says x.0) x.1.at
step_told told at (Ok None) = stop 0 at
step_told told at (Err r) = stop (told r) at

-- a refusal by its number
abbrev pub step_says : (at : ℕ) → Result (Option (PacketReport × Cursor)) Refusal → walk.Step (spec.Report View)
step_says at r = step_told number at r

-- where the body of a message stands in the stream, and its length with added bytes; of other reports nothing
abbrev pub body_place : ℕ → spec.Content View → ℕ × ℕ
body_place size (spec.message k start hint v added) = (start, size - layer.header_length (kind.layer k))
body_place size (spec.unknown c t) = (0, 0)
body_place size (spec.fragment p n) = (0, 0)
body_place size (spec.refusal n) = (0, 0)

-- the part of the stream that a message's ranges and cursors point into
abbrev pub body_of_report : List ℕ → spec.Report View → List ℕ
body_of_report s r = let b = body_place r.size r.content in take b.1 (drop b.0 s)
