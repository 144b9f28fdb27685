-- The walk over every list of packets of demand 3 gives exactly the reports due, and striking unknown packets and fragments changes nothing but offsets.
use Prim.Native.Nat.{ℕ, ◌+◌, ◌≤◌, ◌<◌}
use mathlib.Core.Path.{◌≡◌, refl, sym, ap, ◌∙◌}
use mathlib.Core.List.{List, [], ◌++◌, append-nil, map}
use mathlib.Core.Option.{Option, none, some}
use native.Mathlib.Omega.{arith}
use lib.ListN.{length, drop}
use Rattle.format.specs.Format.{Value, All}
use Rattle.format.specs.View.{View, place}
use Rattle.format.specs.Walk.{stop, report, Walked, reports, keep}
use Rattle.format.specs.Fault.{limit}
use Rattle.format.proofs.Walks.{walk-packets, keep-reports, map-reports}
use Rattle.protocol.specs.Layer.{header_length, hinted, request_field, layer_field, part_field, count_field, cookie}
use Rattle.protocol.specs.Kind.{layer, body_of}
use Rattle.protocol.specs.Step as reported
use Rattle.protocol.specs.Step.{Report, step_rest, step_at, walk, looked}
use Rattle.protocol.proofs.Headers.{header-length}
use Rattle.protocol.specs.Message.{Message, packet_size, Sendable, raised}
use Rattle.stream.specs.Packets.{Packet, message, unknown_layer, unknown_kind, fragment, bytes, Admissible, stream, expected}
use Rattle.stream.specs.Accepted.{Accepted}
use Rattle.stream.specs.Packets.{Strikable, Struck, none_left, kept, struck_out, message_alike}
use Rattle.stream.specs.Claims as claims
use Rattle.stream.proofs.Written.{accepted-is}
use Rattle.protocol.proofs.Found.{step-valid, step-message, fragment-content, layer-content, kind-content, message-content, message-looked, sent, length-packet, raised-packet, length-sent, header-within}

-- the report due, by views relative to the message's body
abbrev pub expected_view : ℕ → Packet → Report View
expected_view at (message m accepted added) = record {
  offset = at;
  size = length accepted + length added;
  request = m.request;
  content = reported.message m.kind (at + header_length (layer m.kind)) (hinted (layer m.kind) m.hint) (place (body_of m.kind) 0 m.value) (length added);
}
expected_view at (unknown_layer h s) = record { offset = at; size = length s; request = request_field h; content = reported.unknown (layer_field h) none }
expected_view at (unknown_kind h l type s) = record { offset = at; size = length s; request = request_field h; content = reported.unknown (cookie l) (some type) }
expected_view at (fragment h s) = record { offset = at; size = length s; request = request_field h; content = reported.fragment (part_field h) (count_field h) }

-- ---- a message, as it was accepted and sent

-- what is known of a message of a stream
pub record Sent (m : Message) (accepted added : List ℕ) : Type 0 where
  pub ok : Sendable m
  pub as-sent : raised accepted added ≡ sent m added
  pub size_is : length accepted + length added ≡ packet_size m + length added
  pub total-is : length (sent m added) ≡ length accepted + length added
  pub within : packet_size m + length added ≤ limit

pub is-sent : (m : Message) (accepted added : List ℕ) → Accepted accepted m → length accepted + length added ≤ limit → Sent m accepted added
is-sent m accepted added a l =
    let is = accepted-is accepted m a in
    let long : length accepted ≡ packet_size m = ap length is.1 ∙ length-packet m in
    record {
      ok = is.0;
      as-sent = ap (λ (s : List ℕ). raised s added) is.1 ∙ raised-packet m added;
      size_is = omega arith;
      total-is = omega (arith, length-sent m added);
      within = omega arith;
    }

-- ---- each packet is found at its place

pub finds : (s : List ℕ) (at : ℕ) (p : Packet) (rest : List ℕ) → Admissible p → drop at s ≡ bytes p ++ rest → step_at s at ≡ report (expected_view at p) (at + length (bytes p))
unfolding step_at
finds s at (message m accepted added) rest g e =
    let t = is-sent m accepted added g.0 g.1 in
    ap (step_rest at) (e ∙ ap (λ (x : List ℕ). x ++ rest) t.as-sent) ∙ step-message at m added rest t.ok t.within
    ∙ rw (message-content at m added t.ok, t.as-sent, t.total-is)
finds s at (unknown_layer h p) rest g e =
    ap (step_rest at) e ∙ step-valid at p rest h g.0 ∙ rw (layer-content at h p g.1 g.2)
finds s at (unknown_kind h l type p) rest g e =
    ap (step_rest at) e ∙ step-valid at p rest h g.0 ∙ rw (kind-content at h l type p g.1 g.2 g.3)
finds s at (fragment h p) rest g e =
    ap (step_rest at) e ∙ step-valid at p rest h g.0 ∙ rw (fragment-content at h p g.1)

-- every packet has a byte
full : (p : Packet) → Admissible p → 0 < length (bytes p)
unfolding packet_size
full (message m accepted added) g =
    let t = is-sent m accepted added g.0 g.1 in
    rw t.as-sent (omega (arith, length-sent m added, header-length (layer m.kind)))
full (unknown_layer h s) g = omega (arith, header-within h s (drop 20 s) g.0.headed)
full (unknown_kind h l type s) g = omega (arith, header-within h s (drop 20 s) g.0.headed)
full (fragment h s) g = omega (arith, header-within h s (drop 20 s) g.0.headed)

-- an empty rest ends the walk with 0
stops : (s : List ℕ) (at : ℕ) → drop at s ≡ [] → step_at s at ≡ stop 0 at
unfolding step_at
stops s at e = rw e

walk-views : (ps : List Packet) → All Admissible ps → walk (stream ps) ≡ (reports bytes expected_view 0 ps, some (0, length (stream ps)))
unfolding walk
walk-views ps hs = rw append-nil at (walk-packets step_at bytes expected_view Admissible finds full ps hs [] 0 stops)

-- what its views find
pub looks : (s : List ℕ) (at : ℕ) (p : Packet) (rest : List ℕ) → Admissible p → drop at s ≡ bytes p ++ rest → looked s (expected_view at p) ≡ expected at p
unfolding looked
looks s at (message m accepted added) rest g e =
    let t = is-sent m accepted added g.0 g.1 in
    let v = message-looked s at m added rest t.ok (e ∙ ap (λ (x : List ℕ). x ++ rest) t.as-sent) in
    rw (t.size_is, v)
looks s at (unknown_layer h p) rest g e = refl
looks s at (unknown_kind h l type p) rest g e = refl
looks s at (fragment h p) rest g e = refl

-- ---- the theorems

-- exactly the reports due
reports-due : (ps : List Packet) → All Admissible ps → map (looked (stream ps)) (walk (stream ps)).0 ≡ reports bytes expected 0 ps
reports-due ps hs =
    ap (λ (x : Walked (Report View)). map (looked (stream ps)) x.0) (walk-views ps hs)
    ∙ map-reports (stream ps) bytes expected_view expected (looked (stream ps)) Admissible (looks (stream ps)) [] ps hs 0 (sym (append-nil (stream ps)))

-- a message's report but for its offsets
abbrev told_view : Packet → Option (Report View)
told_view p = message_alike (expected_view 0 p)

abbrev told : Packet → Option (Report Value)
told p = message_alike (expected 0 p)

same_view : (at : ℕ) (p : Packet) → message_alike (expected_view at p) ≡ told_view p
same_view at (message m accepted added) = refl
same_view at (unknown_layer h s) = refl
same_view at (unknown_kind h l type s) = refl
same_view at (fragment h s) = refl

same-value : (at : ℕ) (p : Packet) → message_alike (expected at p) ≡ told p
same-value at (message m accepted added) = refl
same-value at (unknown_layer h s) = refl
same-value at (unknown_kind h l type s) = refl
same-value at (fragment h s) = refl

-- what is struck says nothing
struck-says : {A : Type 0} (says : Packet → Option A) → ((p : Packet) → Strikable p → says p ≡ none) → {ps qs : List Packet} → Struck ps qs → keep says qs ≡ keep says ps
unfolding keep
struck-says says h none_left = refl
struck-says says h (kept p k) = rw (struck-says says h k)
struck-says says h (struck_out p x k) = rw (h p x) (struck-says says h k)

silent-view : (p : Packet) → Strikable p → told_view p ≡ none
silent-view (message m accepted added) x = absurd x
silent-view (unknown_layer h s) x = refl
silent-view (unknown_kind h l type s) x = refl
silent-view (fragment h s) x = refl

silent : (p : Packet) → Strikable p → told p ≡ none
silent (message m accepted added) x = absurd x
silent (unknown_layer h s) x = refl
silent (unknown_kind h l type s) x = refl
silent (fragment h s) x = refl

admissible-left : {ps qs : List Packet} → Struck ps qs → All Admissible ps → All Admissible qs
admissible-left none_left hs = tt
admissible-left (kept p k) hs = (hs.0, admissible-left k hs.1)
admissible-left (struck_out p x k) hs = admissible-left k hs.1

tells-values : (ps : List Packet) → All Admissible ps → keep message_alike (map (looked (stream ps)) (walk (stream ps)).0) ≡ keep told ps
tells-values ps hs = ap (keep message_alike) (reports-due ps hs) ∙ keep-reports bytes expected message_alike told same-value 0 ps

tells-views : (ps : List Packet) → All Admissible ps → keep message_alike (walk (stream ps)).0 ≡ keep told_view ps
tells-views ps hs = ap (λ (x : Walked (Report View)). keep message_alike x.0) (walk-views ps hs) ∙ keep-reports bytes expected_view message_alike told_view same_view 0 ps

alike : (ps qs : List Packet) → Struck ps qs → All Admissible ps → claims.Alike ps qs
alike ps qs k hs =
    let gs = admissible-left k hs in (
      tells-values qs gs ∙ struck-says told silent k ∙ sym (tells-values ps hs),
      tells-views qs gs ∙ struck-says told_view silent-view k ∙ sym (tells-views ps hs),
    )

pub walked : claims.Walked
walked ps hs = record {
  walked = reports-due ps hs;
  ended = ap (λ (x : Walked (Report View)). x.1) (walk-views ps hs);
  struck = λ qs k. alike ps qs k hs;
}
