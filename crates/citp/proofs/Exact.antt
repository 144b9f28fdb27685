-- What a step of the walk says determines it: nothing is lost.
use Prim.Native.Nat.{ℕ, zero, suc}
use mathlib.Core.Path.{◌≡◌, refl, ap}
use mathlib.Core.Option as math
use Rattle.std.specs.Prelude.{Result, Ok, Err, Option, Some, None}
use Rattle.format.specs.View.{View}
use Rattle.format.specs.Walk.{stop, report}
use Rattle.format.specs.Walk as walk
use Rattle.protocol.specs.Layer as layer
use Rattle.protocol.specs.Kind as kind
use Rattle.protocol.specs.Step as spec
use Rattle.pinf.proofs.Exact as pinf
use Rattle.sdmx.proofs.Exact as sdmx
use Rattle.fptc.proofs.Exact as fptc
use Rattle.fsel.proofs.Exact as fsel
use Rattle.finf.proofs.Exact as finf
use Rattle.caex.proofs.Exact as caex
use Rattle.fptc.specs.declared.Message as fptc-message
use Rattle.citp.specs.Says.{message_kind, message_view, message_hint, report_says, packet_says, step_says}
use Rattle.citp.specs.declared.Message.{Message}
use Rattle.citp.specs.declared.Report.{Report}
use Rattle.citp.specs.declared.PacketReport.{PacketReport}
use Rattle.citp.specs.declared.Cursor.{Cursor}
use Rattle.citp.specs.declared.Message.TheVariants as message
use Rattle.citp.specs.declared.Report.TheVariants as content
use Rattle.refusal.specs.Number.{number}
use Rattle.refusal.specs.declared.Refusal.{Refusal}
use Rattle.refusal.proofs.Exact.{refusal_of, refusal-exact, never-none}
use Rattle.citp.proofs.LayerOf.{pinf-layer, sdmx-layer, fptc-layer, fsel-layer, finf-layer, caex-layer}

abbrev hint_of : math.Option ℕ → ℕ
hint_of math.none = 0
hint_of (math.some hint) = hint

-- the message of a layer's kind
abbrev message_of : layer.Layer → (k : kind.Kind) → math.Option ℕ → View (kind.body_of k) → Message
message_of layer.PINF k hint v = message.Pinf (pinf.message_of k v)
message_of layer.SDMX k hint v = message.Sdmx (sdmx.message_of k v)
message_of layer.FPTC k hint v = message.Fptc (fptc.message_of k v) (hint_of hint)
message_of layer.FSEL k hint v = message.Fsel (fsel.message_of k v)
message_of layer.FINF k hint v = message.Finf (finf.message_of k v)
message_of layer.CAEX k hint v = message.Caex (caex.message_of k v)

message-exact : (m : Message) → m ≡ message_of (kind.layer (message_kind m)) (message_kind m) (message_hint m) (message_view m)
message-exact (message.Pinf m) = rw (pinf-layer m) (ap message.Pinf (pinf.message_view-exact m))
message-exact (message.Sdmx m) = rw (sdmx-layer m) (ap message.Sdmx (sdmx.message_view-exact m))
message-exact (message.Fptc m hint) = rw (fptc-layer m) (ap (λ (x : fptc-message.Message). message.Fptc x hint) (fptc.message_view-exact m))
message-exact (message.Fsel m) = rw (fsel-layer m) (ap message.Fsel (fsel.message_view-exact m))
message-exact (message.Finf m) = rw (finf-layer m) (ap message.Finf (finf.message_view-exact m))
message-exact (message.Caex m) = rw (caex-layer m) (ap message.Caex (caex.message_view-exact m))

abbrev content_read : spec.Content View → Report
content_read (spec.message k start hint v added) = content.Message (message_of (kind.layer k) k hint v) start added
content_read (spec.unknown c math.none) = content.UnknownLayer c
content_read (spec.unknown c (math.some type)) = content.UnknownKind c type
content_read (spec.fragment part count) = content.Fragment part count
content_read (spec.refusal n) = content.Refused n

pub report-exact : (r : Report) → r ≡ content_read (report_says r)
report-exact (content.Message m start added) = ap (λ (x : Message). content.Message x start added) (message-exact m)
report-exact (content.UnknownLayer c) = refl
report-exact (content.UnknownKind c type) = refl
report-exact (content.Fragment part count) = refl
report-exact (content.Refused n) = refl

abbrev packet_read : spec.Report View → PacketReport
packet_read r = record { offset = r.offset; size = r.size; request_index = r.request; report = content_read r.content }

pub packet-exact : (r : PacketReport) → r ≡ packet_read (packet_says r)
packet-exact r = rw (← report-exact r.report) refl

abbrev stop_read : ℕ → Result (Option (PacketReport × Cursor)) Refusal
stop_read zero = Ok None
stop_read (suc n) = Err (refusal_of (suc n))

stopped : (r : Refusal) (n : ℕ) → number r ≡ n → ◌≡◌ {A = Result (Option (PacketReport × Cursor)) Refusal} (Err r) (stop_read n)
stopped r zero e = absurd (never-none r e)
stopped r (suc n) e = rw (← e) (ap (λ (y : Refusal). Err y) (refusal-exact r))

abbrev step_read : walk.Step (spec.Report View) → Result (Option (PacketReport × Cursor)) Refusal
step_read (report r next) = Ok (Some (packet_read r, record { at = next }))
step_read (stop n at) = stop_read n

pub step-exact : (at : ℕ) (r : Result (Option (PacketReport × Cursor)) Refusal) → r ≡ step_read (step_says at r)
step-exact at (Ok (Some x)) = rw (← packet-exact x.0) refl
step-exact at (Ok None) = refl
step-exact at (Err r) = stopped r (number r) refl
