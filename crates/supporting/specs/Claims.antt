-- What is promised of the offsets of unsupported packets. Each claim is proved under its name in the file of proofs/ beside it.
use Rattle.std.specs.Prelude.{ℕ, suc, ◌/◌, ◌≤◌, ◌<◌, ◌≡◌, true, ◌⊎◌, List, [], ◌∷◌, map, length, take, drop}
use Rattle.std.proofs.Math.Option.{Option, none, some}
use Rattle.format.specs.Format.{pick, All, In}
use Rattle.format.specs.View.{View}
use Rattle.format.specs.Walk.{reports, keep}
use Rattle.protocol.specs.Kind.{Kind, ChLs, Sxus, body_of}
use Rattle.protocol.specs.Step as reported
use Rattle.protocol.specs.Step.{Content, Report, walk}
use Rattle.stream.specs.Packets.{Packet, message, unknown_layer, unknown_kind, fragment, bytes, Admissible, stream}
use Rattle.supporting.specs.Offsets.{stop_of, unsupported, unsupported_offsets, answer}

-- ---- over every stream

-- each at least the first number, and above the one before
abbrev pub RisingFrom : (least : ℕ) → List ℕ → Type 0
RisingFrom least [] = Unit {0}
RisingFrom least (x ∷ xs) = (least ≤ x) × RisingFrom (suc x) xs

-- a capability that is none of the list
abbrev pub Absent : ℕ → List ℕ → Type 0
Absent n capabilities = In n capabilities → ⊥

-- the kinds that a receiver does not support
pub data UnsupportedKind (capabilities : List ℕ) : Kind → Type 0 where
  channel_lists : Absent 1 capabilities → UnsupportedKind capabilities ChLs
  external_sources : Absent 3 capabilities → UnsupportedKind capabilities Sxus

-- unsupported-kinds (Exact): they are those that the definition computes
abbrev pub UnsupportedKinds : Type 0
UnsupportedKinds = (capabilities : List ℕ) (k : Kind)
    → (unsupported capabilities k ≡ true → UnsupportedKind capabilities k)
    × (UnsupportedKind capabilities k → unsupported capabilities k ≡ true)

-- a message of a kind, whatever it holds
pub data MessageOf (k : Kind) : Content View → Type 0 where
  message_of : {start : ℕ} {hint : Option ℕ} {v : View (body_of k)} {added : ℕ} → MessageOf k (reported.message k start hint v added)

-- a packet at an offset of the stream that the walk reports as a message of such a kind
pub record UnsupportedAt (capabilities s : List ℕ) (offset : ℕ) : Type 0 where
  pub report : Report View
  pub reported : In report (walk s).0
  pub stands : report.offset ≡ offset
  pub kind : Kind
  pub is-message : MessageOf kind report.content
  pub lacks : UnsupportedKind capabilities kind

pub record Exact (capabilities s : List ℕ) : Type 0 where
  -- the offsets rise, so none is there twice
  pub rise : RisingFrom 0 (unsupported_offsets capabilities s)
  -- each is that of such a packet, and that of each such packet is there
  pub no_others : (o : ℕ) → In o (unsupported_offsets capabilities s) → UnsupportedAt capabilities s o
  pub each : (o : ℕ) → UnsupportedAt capabilities s o → In o (unsupported_offsets capabilities s)
  -- no two packets stand at one offset
  pub apart : RisingFrom 0 (map (λ (r : Report View). r.offset) (walk s).0)
  -- the walk ends with the stop number, 0 only at the stream's end
  pub end : ℕ
  pub stops : (walk s).1 ≡ some (stop_of s, end)
  pub whole : stop_of s ≡ 0 → end ≡ length s

-- unsupported-exact (Exact): over every list of capabilities and every stream
abbrev pub UnsupportedExact : Type 0
UnsupportedExact = (capabilities s : List ℕ) → Exact capabilities s

-- ---- over every list of packets of demand 3

-- the offset of a packet, if it is a message of such a kind
abbrev pub offset_due : (capabilities : List ℕ) → ℕ → Packet → Option ℕ
offset_due capabilities at (message m accepted added) = pick (unsupported capabilities m.kind) (some at) none
offset_due capabilities at (unknown_layer h s) = none
offset_due capabilities at (unknown_kind h l type s) = none
offset_due capabilities at (fragment h s) = none

-- those of a list of packets laid end to end, each the sum of the sizes before it
abbrev pub offsets_due : (capabilities : List ℕ) → List Packet → List ℕ
offsets_due capabilities ps = keep (λ (o : Option ℕ). o) (reports bytes (offset_due capabilities) 0 ps)

-- unsupported-packets (Packets): the offsets are those of the list's messages of the two kinds, and the walk ends with 0
abbrev pub UnsupportedPackets : Type 0
UnsupportedPackets = (capabilities : List ℕ) (ps : List Packet) → All Admissible ps
    → (unsupported_offsets capabilities (stream ps) ≡ offsets_due capabilities ps) × (stop_of (stream ps) ≡ 0)

-- ---- the call

-- an answer on a lent list: the count of the offsets and the stop number; a list that is too short is refused with 13 and is as it was;
-- else its first places hold the offsets, and the rest is as it was
pub record Answered (offsets : List ℕ) (stop : ℕ) (out : List ℕ) (r : ℕ × ℕ × ℕ × List ℕ) : Type 0 where
  pub counts : r.1 ≡ length offsets
  pub stops : r.2 ≡ stop
  pub short : length out < length offsets → (r.0 ≡ 13) × (r.3 ≡ out)
  pub taken : length offsets ≤ length out
      → (r.0 ≡ 0) × (take (length offsets) r.3 ≡ offsets) × (drop (length offsets) r.3 ≡ drop (length offsets) out)

-- unsupported-answered (Numbers)
abbrev pub UnsupportedAnswered : Type 0
UnsupportedAnswered = (capabilities s out : List ℕ)
    → Answered (unsupported_offsets capabilities s) (stop_of s) out (answer capabilities s out)

-- ---- demand 1

-- a call is taken with 0, or refused with 13, and then the lent list is as it was; the stop number is 0 to 5
abbrev pub Numbered : (out : List ℕ) → ℕ × ℕ × ℕ × List ℕ → Type 0
Numbered out r = ((r.0 ≡ 0) ⊎ ((r.0 ≡ 13) × (r.3 ≡ out))) × (r.2 ≤ 5)

-- unsupported-numbers (Numbers)
abbrev pub UnsupportedNumbers : Type 0
UnsupportedNumbers = (capabilities s out : List ℕ) → Numbered out (answer capabilities s out)

-- unsupported-room (Numbers): a list with a place for each 20 bytes of the stream is not too short
abbrev pub UnsupportedRoom : Type 0
UnsupportedRoom = (capabilities s out : List ℕ) → length s / 20 ≤ length out → (answer capabilities s out).0 ≡ 0
