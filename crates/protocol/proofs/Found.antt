-- The step finds each packet of demand 3 at its place, whatever follows.
use Prim.Native.Nat.{ℕ, zero, suc, ◌+◌, ◌-◌, ◌^◌, ◌≤◌, ◌<◌}
use mathlib.Core.Path.{◌≡◌, refl, sym, ap, ◌∙◌}
use mathlib.Core.Bool.{Bool, true, false, ◌||◌}
use mathlib.Core.List.{List, ◌++◌, append_assoc}
use mathlib.Core.Option.{none, some}
use native.Mathlib.Omega.{arith}
use borrow.Author.Tests.{le-ltb, ltb-false, ne_eqb}
use lib.ListN.{length, take, drop, length-append, length-drop}
use lib.Seq.{sets, take_at, drop-drop}
use lib.Dec.{ltb}
use Rattle.format.specs.Format.{Value, number, got, decode, encode, size, Valid}
use Rattle.format.proofs.Bools.{neither}
use Rattle.format.proofs.Reading.{given}
use Rattle.format.proofs.Codec.{round_trip, read-on}
use Rattle.format.proofs.Width.{size-is-length, size-is-width, decode-behind}
use Rattle.format.specs.View.{View, seen, view, placed, place, look}
use Rattle.format.proofs.Look.{holds}
use Rattle.format.specs.Walk.{Step, report}
use Rattle.format.specs.Fault.{limit}
use Rattle.protocol.specs.Layer.{Layer, cookie, header_length, hinted, header, layer_header, request_field, size_field, count_field, part_field, layer_field}
use Rattle.protocol.specs.Kind.{layer, content_type, body_of}
use Rattle.protocol.specs.Step as reported
use Rattle.protocol.specs.Step.{Report, content_at, step_rest, step_at, read_body}
use Rattle.protocol.specs.Message.{Message, header_of, headers_of, packet_size, packet, Sendable, raised}
use Rattle.protocol.proofs.Headers.{header-length, length-headers, size-stored, hint-told, headers-read, layer-read, behind-header, behind-headers}
use Rattle.protocol.proofs.Lookup.{layer-found, no-layer, kind-found, no_kind}
use Rattle.protocol.proofs.Steps.{Starts, start-zero, Does, halts, tells, step-does}
use Rattle.protocol.specs.Packet.{ValidPacket, Whole, NoLayer, NoKind, HasLayer}

-- ---- a packet by its base header

-- the report on a packet, by its base header
abbrev pub report_of : ℕ → Value header → List ℕ → Report View
report_of at h p = record { offset = at; size = length p; request = request_field h; content = content_at at h p }

pub step-headed : (at : ℕ) (p rest t : List ℕ) (h : Value header) → decode header (p ++ rest) ≡ got h t → Starts h (length p) → size_field h ≡ length p
    → step_rest at (p ++ rest) ≡ report (report_of at h p) (at + length p)
step-headed at p rest t h e s z =
    let long : length (p ++ rest) ≡ length p + length rest = length-append p rest in
    let least : 20 ≤ length p = rw z at s.least in
    let more : Starts h (length (p ++ rest)) = record {
      cookie-is = s.cookie-is;
      major-is = s.major-is;
      least = s.least;
      most = s.most;
      within = omega arith;
    } in
    rw (
      ne_eqb (length (p ++ rest)) 0 (omega arith),
      le-ltb (length (p ++ rest)) 20 (omega arith),
      e,
      start-zero more,
      z,
      take_at p rest (length p) refl,
    )

-- ---- packets that are valid by their base header

pub header-within : (h : Value header) (s t : List ℕ) → decode header s ≡ got h t → 20 ≤ length s
header-within h s t e =
    let b = (given (decode-behind header s) e).within in
    let z = size-is-width header (tt, (tt, (tt, (tt, (tt, (tt, (tt, tt))))))) h in
    omega (arith, b, z)

pub valid-starts : (h : Value header) (s : List ℕ) → ValidPacket h s → Starts h (length s)
valid-starts h s v = by (step_at s 0) refl (step-does s 0)
  where
    by : (x : Step (Report View)) → step_at s 0 ≡ x → Does 0 s x → Starts h (length s)
    by x e (halts {n = zero} l z) = absurd (omega (arith, z refl, header-within h s (drop 20 s) v.headed))
    by x e (halts {n = suc n} l z) = absurd (v.passes (suc n) (omega arith) l e)
    by x e (tells {h = g} d b) = let same : g ≡ h = cc v.headed in rw same at b

pub step-valid : (at : ℕ) (s rest : List ℕ) (h : Value header) → ValidPacket h s → step_rest at (s ++ rest) ≡ report (report_of at h s) (at + length s)
step-valid at s rest h v =
    step-headed at s rest (drop 20 s ++ rest) h (read-on header s rest v.octets v.headed) (valid-starts h s v) v.sized

whole-test : (h : Value header) → Whole h → (ltb 1 (count_field h) || ltb 0 (part_field h)) ≡ false
whole-test h w = rw (le-ltb 1 (count_field h) w.0, le-ltb 0 (part_field h) (omega (arith, w.1)))

fragment-test : (h : Value header) → (Whole h → ⊥) → (ltb 1 (count_field h) || ltb 0 (part_field h)) ≡ true
fragment-test h f = by (ltb 1 (count_field h) || ltb 0 (part_field h)) refl
  where
    by : (b : Bool) → (ltb 1 (count_field h) || ltb 0 (part_field h)) ≡ b → b ≡ true
    by true e = refl
    by false e =
        let n = neither (ltb 1 (count_field h)) (ltb 0 (part_field h)) e in
        absurd (f (ltb-false 1 (count_field h) n.0, omega (arith, ltb-false 0 (part_field h) n.1)))

pub fragment-content : (at : ℕ) (h : Value header) (s : List ℕ) → (Whole h → ⊥) → content_at at h s ≡ reported.fragment (part_field h) (count_field h)
unfolding content_at
fragment-content at h s f = rw (fragment-test h f)

pub layer-content : (at : ℕ) (h : Value header) (s : List ℕ) → Whole h → NoLayer (layer_field h) → content_at at h s ≡ reported.unknown (layer_field h) none
unfolding content_at
layer-content at h s w n = rw (whole-test h w, no-layer (layer_field h) n)

pub kind-content : (at : ℕ) (h : Value header) (l : Layer) (type : ℕ) (s : List ℕ) → Whole h → HasLayer l type h s → NoKind l type
    → content_at at h s ≡ reported.unknown (cookie l) (some type)
unfolding content_at read_body
kind-content at h l type s w has n =
    let b = (given (decode-behind (layer_header l) (drop 20 s)) has.complete).within in
    let z = size-is-width (layer_header l) (tt, tt) (type, has.hint) in
    let long : header_length l ≤ length s = omega (arith, b, z, length-drop 20 s, header-length l) in
    rw (whole-test h w, has.cookie-is, layer-found l, le-ltb (length s) (header_length l) long, has.complete, no_kind l type n)

-- ---- messages

-- a message's packet with more bytes behind it
abbrev pub sent : Message → List ℕ → List ℕ
sent m added = headers_of m.kind (packet_size m + length added) m.request m.hint ++ (encode (body_of m.kind) m.value ++ added)

pub length-packet : (m : Message) → length (packet m) ≡ packet_size m
unfolding packet packet_size
length-packet m =
    let f = headers_of m.kind (packet_size m) m.request m.hint in
    let b = encode (body_of m.kind) m.value in
    length-append f b ∙ rw (length-headers m.kind (packet_size m) m.request m.hint, ← size-is-length (body_of m.kind) m.value)

pub raised-packet : (m : Message) (added : List ℕ) → raised (packet m) added ≡ sent m added
unfolding packet
raised-packet m added =
    let f = headers_of m.kind (packet_size m) m.request m.hint in
    let b = encode (body_of m.kind) m.value in
    ap (λ (n : ℕ). sets (packet m ++ added) 8 (encode (number 4) (n + length added))) (length-packet m)
    ∙ ap (λ (x : List ℕ). sets x 8 (encode (number 4) (packet_size m + length added))) (append_assoc f b added)
    ∙ size-stored m.kind (packet_size m) (packet_size m + length added) m.request m.hint (b ++ added)

pub length-sent : (m : Message) (added : List ℕ) → length (sent m added) ≡ packet_size m + length added
unfolding packet_size
length-sent m added =
    let f = headers_of m.kind (packet_size m + length added) m.request m.hint in
    let b = encode (body_of m.kind) m.value in
    omega (
      arith,
      length-append f (b ++ added),
      length-append b added,
      length-headers m.kind (packet_size m + length added) m.request m.hint,
      size-is-length (body_of m.kind) m.value,
    )

-- the view of a message's body, and its value in it
body-view : (m : Message) (added : List ℕ) → Valid (body_of m.kind) m.value
    → view (body_of m.kind) (encode (body_of m.kind) m.value ++ added) 0
    ≡ seen (place (body_of m.kind) 0 m.value) (0 + size (body_of m.kind) m.value)
unfolding view placed
body-view m added v = rw (round_trip (body_of m.kind) m.value added v)

pub message-content : (at : ℕ) (m : Message) (added : List ℕ) → Sendable m
    → content_at at (header_of (layer m.kind) (packet_size m + length added) m.request) (sent m added)
    ≡ reported.message m.kind (at + header_length (layer m.kind)) (hinted (layer m.kind) m.hint) (place (body_of m.kind) 0 m.value) (length added)
unfolding content_at read_body packet_size
message-content at m added ok =
    let k = m.kind in
    let l = layer k in
    let n = packet_size m + length added in
    let b = encode (body_of k) m.value in
    let p = sent m added in
    let long : length p ≡ header_length l + size (body_of k) m.value + length added = length-sent m added in
    let short : header_length l ≤ length p = omega (arith, long) in
    let count : length p - header_length l - (0 + size (body_of k) m.value) ≡ length added = omega (arith, long) in
    rw (
      layer-found l,
      le-ltb (length p) (header_length l) short,
      behind-header k n m.request m.hint (b ++ added),
      layer-read k m.hint (b ++ added) ok.hint-fits,
      kind-found k,
      behind-headers k n m.request m.hint (b ++ added),
      body-view m added ok.valid,
      hint-told l m.hint,
      count,
    )

pub step-message : (at : ℕ) (m : Message) (added rest : List ℕ) → Sendable m → packet_size m + length added ≤ limit
    → step_rest at (sent m added ++ rest)
    ≡ report (report_of at (header_of (layer m.kind) (packet_size m + length added) m.request) (sent m added)) (at + length (sent m added))
unfolding packet_size
step-message at m added rest ok l =
    let k = m.kind in
    let n = packet_size m + length added in
    let b = encode (body_of k) m.value in
    let f = headers_of k n m.request m.hint in
    let long : length (sent m added) ≡ n = length-sent m added in
    let small : n < 256 ^ 4 = omega arith in
    let read : decode header (sent m added ++ rest) ≡ got (header_of (layer k) n m.request) (encode (layer_header (layer k)) (content_type k, m.hint) ++ ((b ++ added) ++ rest)) =
    ap (decode header) (append_assoc f (b ++ added) rest) ∙ headers-read k n m.request m.hint ((b ++ added) ++ rest) small ok.request_fits in
    let starts : Starts (header_of (layer k) n m.request) (length (sent m added)) = record {
      cookie-is = refl;
      major-is = refl;
      least = omega (arith, header-length (layer k));
      most = l;
      within = omega arith;
    } in
    step-headed at (sent m added) rest (encode (layer_header (layer k)) (content_type k, m.hint) ++ ((b ++ added) ++ rest)) (header_of (layer k) n m.request) read
    starts (sym long)

-- the value stands where the report's view says
pub message-looked : (s : List ℕ) (at : ℕ) (m : Message) (added rest : List ℕ) → Sendable m → drop at s ≡ sent m added ++ rest
    → look (body_of m.kind) (take (packet_size m + length added - header_length (layer m.kind)) (drop (at + header_length (layer m.kind)) s)) (place (body_of m.kind) 0 m.value) ≡ m.value
unfolding packet_size
message-looked s at m added rest ok e =
    let k = m.kind in
    let n = packet_size m + length added in
    let b = encode (body_of k) m.value in
    let f = headers_of k n m.request m.hint in
    let body-there : drop (at + header_length (layer k)) s ≡ (b ++ added) ++ rest =
    sym (drop-drop (header_length (layer k)) at s) ∙ ap (drop (header_length (layer k))) (e ∙ append_assoc f (b ++ added) rest)
    ∙ behind-headers k n m.request m.hint ((b ++ added) ++ rest) in
    let long : length (b ++ added) ≡ n - header_length (layer k) = omega (arith, length-append b added, size-is-length (body_of k) m.value) in
    let cut : take (n - header_length (layer k)) (drop (at + header_length (layer k)) s) ≡ b ++ added = rw body-there (take_at (b ++ added) rest (n - header_length (layer k)) long) in
    rw cut (given (holds (body_of k) (b ++ added) 0) (round_trip (body_of k) m.value added ok.valid))
