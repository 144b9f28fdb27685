-- A packet of minor 0, count 1 and part 0 that is reported as a message without added bytes is one that the writer writes.
use Prim.Native.Nat.{ℕ, ◌+◌, ◌-◌, ◌^◌, ◌≤◌, ◌<◌}
use mathlib.Core.Path.{◌≡◌, refl, sym, ap, ◌∙◌, subst}
use mathlib.Core.Bool.{Bool, true, false, ◌||◌, false≢true}
use mathlib.Core.List.{List, [], ◌∷◌, ◌++◌, append_assoc, append-nil}
use mathlib.Core.Option.{Option, none, some}
use native.Mathlib.Omega.{arith}
use borrow.Author.Tests.{ltb-false}
use lib.ListN.{length, take, drop, length-append, length-drop}
use lib.Seq.{drop-drop, take_all}
use lib.Dec.{ltb}
use Rattle.format.specs.Format.{Value, Read, got, refused, pick, decode, encode, size, Bytes}
use Rattle.format.proofs.Codec.{read_back, bytes-behind}
use Rattle.format.proofs.Width.{size-is-length, rest-is-drop}
use Rattle.format.specs.View.{View, view, placed}
use Rattle.format.specs.Walk.{Step, stop, report}
use Rattle.format.specs.Fault.{limit}
use Rattle.protocol.specs.Layer.{Layer, PINF, SDMX, FPTC, FSEL, FINF, CAEX, cookie, header_length, hint_length, layer_of, header, layer_header, citp, cookie_field}
use Rattle.protocol.specs.Layer.{major_field, request_field, size_field, count_field, part_field, layer_field}
use Rattle.protocol.specs.Kind.{Kind, layer, content_type, body_of, kind_of}
use Rattle.protocol.specs.Step.{Content, message, unknown, fragment, refusal, Report, body_seen, body_as, read_body, content_of, read_layer_header, read_layer}
use Rattle.protocol.specs.Step.{content_at, step_at, looked}
use Rattle.protocol.specs.Message.{Message, header_of, headers_of, packet_size, packet, Sendable, raised}
use Rattle.protocol.proofs.Headers.{header-length, length-header, length-layer}
use Rattle.protocol.proofs.Lookup.{layer-known, Known, kind-known}
use Rattle.protocol.proofs.Steps.{Starts, Reported, reported}
use Rattle.stream.specs.Packets as sent
use Rattle.stream.specs.Accepted.{Accepted}
use Rattle.stream.specs.Claims as claims
use Rattle.stream.proofs.Accepts.{accepts}
use Rattle.stream.proofs.Bodies.{raised-none}
use Rattle.stream.proofs.Walked.{expected_view, finds, looks}

-- ---- what a message's report has found

abbrev added_in : Content View → Option ℕ
added_in (message k start hint v added) = some added
added_in (unknown c t) = none
added_in (fragment p n) = none
added_in (refusal n) = none

abbrev is_some : {A : Type 0} → Option A → Bool
is_some none = false
is_some (some x) = true

abbrev number_or : ℕ → Option ℕ → ℕ
number_or d none = d
number_or d (some n) = n

no-some : {n : ℕ} → none ≡ some n → ⊥
no-some e = false≢true (ap is_some e)

-- the layer header of a packet
pub record LayerRead (c : ℕ) (p : List ℕ) (l : Layer) (type hint : ℕ) : Type 0 where
  pub cookie-of : cookie l ≡ c
  pub long : header_length l ≤ length p
  pub after-layer : List ℕ
  pub reads-layer : decode (layer_header l) (drop 20 p) ≡ got (type, hint) after-layer

-- a whole message: layer header, kind, body, and no byte more
pub record Told (c : ℕ) (p : List ℕ) : Type 0 where
  pub kind : Kind
  pub hint : ℕ
  pub layer-read : LayerRead c p (layer kind) (content_type kind) hint
  pub value : Value (body_of kind)
  pub after-body : List ℕ
  pub reads-body : decode (body_of kind) (drop (header_length (layer kind)) p) ≡ got value after-body
  pub none-added : length p - header_length (layer kind) - (0 + size (body_of kind) value) ≡ 0

told-body : (c : ℕ) (p : List ℕ) (at : ℕ) (k : Kind) (hint : ℕ) → LayerRead c p (layer k) (content_type k) hint
    → (x : Read (Value (body_of k))) → decode (body_of k) (drop (header_length (layer k)) p) ≡ x
    → added_in (content_of (layer k) (at + header_length (layer k)) (length p - header_length (layer k)) (content_type k) hint (body_seen k (placed (body_of k) 0 x))) ≡ some 0 → Told c p
unfolding placed
told-body c p at k hint l (got v t) e a = record {
  kind = k;
  hint = hint;
  layer-read = l;
  value = v;
  after-body = t;
  reads-body = e;
  none-added = ap (number_or 0) a;
}
told-body c p at k hint l (refused n) e a = absurd (no-some a)

told-kind : (c : ℕ) (p : List ℕ) (at : ℕ) (l : Layer) (type hint : ℕ) → LayerRead c p l type hint → (x : Option Kind) → kind_of l type ≡ x
    → added_in (content_of l (at + header_length l) (length p - header_length l) type hint (body_as x (drop (header_length l) p))) ≡ some 0 → Told c p
unfolding view
told-kind c p at l type hint lr none e a = absurd (no-some a)
told-kind c p at l type hint lr (some k) e a = on l type found.layer-is found.type-is lr a
  where
    found : Known l type k
    found = kind-known l type k e

    on : (l : Layer) (type : ℕ) → layer k ≡ l → content_type k ≡ type → LayerRead c p l type hint
        → added_in (content_of l (at + header_length l) (length p - header_length l) type hint (body_as (some k) (drop (header_length l) p))) ≡ some 0 → Told c p
    on l type q q' = subst (λ (j : Layer). (LayerRead c p j type hint → added_in (content_of j (at + header_length j) (length p - header_length j) type hint (body_as (some k) (drop (header_length j) p))) ≡ some 0 → Told c p)) q
        (subst (λ (n : ℕ). (LayerRead c p (layer k) n hint → added_in (content_of (layer k) (at + header_length (layer k)) (length p - header_length (layer k)) n hint (body_as (some k) (drop (header_length (layer k)) p))) ≡ some 0 → Told c p)) q'
        (λ lr a. told-body c p at k hint lr (decode (body_of k) (drop (header_length (layer k)) p)) refl a))

told-header : (c : ℕ) (p : List ℕ) (at : ℕ) (l : Layer) → cookie l ≡ c → header_length l ≤ length p → (x : Read (Value (layer_header l))) → decode (layer_header l) (drop 20 p) ≡ x
    → added_in (read_layer_header l at p x) ≡ some 0 → Told c p
unfolding read_body
told-header c p at l q z (refused n) e a = absurd (no-some a)
told-header c p at l q z (got t rest) e a =
    told-kind c p at l t.0 t.1 (record { cookie-of = q; long = z; after-layer = rest; reads-layer = e }) (kind_of l t.0) refl a

told-long : (c : ℕ) (p : List ℕ) (at : ℕ) (l : Layer) → cookie l ≡ c → (b : Bool) → ltb (length p) (header_length l) ≡ b
    → added_in (pick b (refusal 6) (read_layer_header l at p (decode (layer_header l) (drop 20 p)))) ≡ some 0 → Told c p
told-long c p at l q true e a = absurd (no-some a)
told-long c p at l q false e a = told-header c p at l q (ltb-false (length p) (header_length l) e) (decode (layer_header l) (drop 20 p)) refl a

told-layer : (c : ℕ) (p : List ℕ) (at : ℕ) (x : Option Layer) → layer_of c ≡ x → added_in (read_layer at c p x) ≡ some 0 → Told c p
told-layer c p at none e a = absurd (no-some a)
told-layer c p at (some l) e a = told-long c p at l (layer-known c l e) (ltb (length p) (header_length l)) refl a

told-content : (at : ℕ) (h : Value header) (p : List ℕ) → added_in (content_at at h p) ≡ some 0 → Told (layer_field h) p
unfolding content_at
told-content at h p a = by (ltb 1 (count_field h) || ltb 0 (part_field h)) a
  where
    by : (b : Bool) → added_in (pick b (fragment (part_field h) (count_field h)) (read_layer at (layer_field h) p (layer_of (layer_field h)))) ≡ some 0 → Told (layer_field h) p
    by true a = absurd (no-some a)
    by false a = told-layer (layer_field h) p at (layer_of (layer_field h)) refl a

-- ---- its bytes are those of the message's packet

-- the base header as it is written
header-as : (c major minor request extent count part l : ℕ) (k : Layer) (n : ℕ) → c ≡ citp → major ≡ 1 → minor ≡ 0 → extent ≡ n → count ≡ 1 → part ≡ 0 → cookie k ≡ l
    → ◌≡◌ {A = Value header} (c, (major, (minor, (request, (extent, (count, (part, l))))))) (header_of k n request)
header-as c major minor request extent count part l k n a b d e f g i = rw (a, b, d, e, f, g, i)

no_bytes : (xs : List ℕ) → length xs ≡ 0 → xs ≡ []
no_bytes [] e = refl
no_bytes (x ∷ xs) e = absurd (omega arith)

hint-small : (l : Layer) (hint : ℕ) → hint < 256 ^ hint_length l → hint < 4294967296
hint-small PINF hint h = omega arith
hint-small SDMX hint h = omega arith
hint-small FPTC hint h = h
hint-small FSEL hint h = omega arith
hint-small FINF hint h = omega arith
hint-small CAEX hint h = omega arith

-- the message that was told
abbrev message_of : (h : Value header) {s : List ℕ} → Told (layer_field h) s → Message
message_of h t = record { kind = t.kind; request = request_field h; hint = t.hint; value = t.value }

rebuilt : (s : List ℕ) (h : Value header) (rest : List ℕ) (t : Told (layer_field h) s) → Bytes s → decode header s ≡ got h rest
    → cookie_field h ≡ citp → major_field h ≡ 1 → h.1.1.0 ≡ 0 → size_field h ≡ length s → count_field h ≡ 1 → part_field h ≡ 0 → length s ≤ limit
    → Sendable (message_of h t) × (s ≡ packet (message_of h t))
unfolding packet packet_size headers_of
rebuilt s h rest t hs e ck mj mn sz ct pt lim =
    let k = t.kind in
    let l = layer k in
    let lr = t.layer-read in
    let a = read_back header s hs e in
    let bytes_rest : Bytes rest = bytes-behind (encode header h) rest (rw a.1 at hs) in
    let rest-is : rest ≡ drop 20 s = rest-is-drop header s e ∙ ap (λ (n : ℕ). drop n s) (length-header h) in
    let reads-layer : decode (layer_header l) rest ≡ got (content_type k, t.hint) lr.after-layer = ap (decode (layer_header l)) rest-is ∙ lr.reads-layer in
    let b = read_back (layer_header l) rest bytes_rest reads-layer in
    let bytes-body : Bytes lr.after-layer = bytes-behind (encode (layer_header l) (content_type k, t.hint)) lr.after-layer (rw b.1 at bytes_rest) in
    let body_is : lr.after-layer ≡ drop (header_length l) s =
    rest-is-drop (layer_header l) rest reads-layer
    ∙ ap (λ (n : ℕ). drop n rest) (length-layer l (content_type k, t.hint))
    ∙ ap (drop (4 + hint_length l)) rest-is ∙ drop-drop (4 + hint_length l) 20 s ∙ ap (λ (n : ℕ). drop n s) (sym (header-length l)) in
    let reads-body : decode (body_of k) lr.after-layer ≡ got t.value t.after-body = ap (decode (body_of k)) body_is ∙ t.reads-body in
    let d = read_back (body_of k) lr.after-layer bytes-body reads-body in
    let v = encode (body_of k) t.value in
    let sizes : size (body_of k) t.value ≡ length v = size-is-length (body_of k) t.value in
    let split : length lr.after-layer ≡ length v + length t.after-body = ap length d.1 ∙ length-append v t.after-body in
    let cut : length lr.after-layer ≡ length s - header_length l = ap length body_is ∙ length-drop (header_length l) s in
    let long : header_length l ≤ length s = lr.long in
    let over : length s - header_length l - (0 + size (body_of k) t.value) ≡ 0 = t.none-added in
    let none-behind : t.after-body ≡ [] = no_bytes t.after-body (omega arith) in
    let no_more : length t.after-body ≡ 0 = ap length none-behind in
    let whole : header_length l + size (body_of k) t.value ≡ length s = omega arith in
    let base : h ≡ header_of l (header_length l + size (body_of k) t.value) (request_field h) =
    header-as h.0 h.1.0 h.1.1.0 h.1.1.1.0 h.1.1.1.1.0 h.1.1.1.1.1.0 h.1.1.1.1.1.1.0 h.1.1.1.1.1.1.1 l
    (header_length l + size (body_of k) t.value) ck mj mn (sz ∙ sym whole) ct pt lr.cookie-of in
    let body_bytes : lr.after-layer ≡ v = d.1 ∙ ap (λ (x : List ℕ). v ++ x) none-behind ∙ append-nil v in
    let b1 = b.1 in (
      record { request_fits = a.0.1.1.1.0; hint-fits = hint-small l t.hint b.0.1; valid = d.0; within = rw whole lim },
      a.1 ∙ ap (λ (x : List ℕ). encode header h ++ x) (b1 ∙ ap (λ (x : List ℕ). encode (layer_header l) (content_type k, t.hint) ++ x) body_bytes)
          ∙ ap (λ (x : Value header). encode header x ++ (encode (layer_header l) (content_type k, t.hint) ++ v)) base
          ∙ sym (append_assoc (encode header (header_of l (header_length l + size (body_of k) t.value) (request_field h))) (encode (layer_header l) (content_type k, t.hint)) v),
    )

-- ---- the theorem

abbrev value_or : {A : Type 0} → A → Read A → A
value_or d (got a t) = a
value_or d (refused n) = d

abbrev report_in : Report View → Step (Report View) → Report View
report_in d (stop n o) = d
report_in d (report r k) = r

-- a message's packet, accepted and reported
reported-again : (s : List ℕ) (r : Report View) (m : Message) → Sendable m → s ≡ packet m → length s ≤ limit
    → step_at s 0 ≡ report r (length s) → claims.Rewritten s r
reported-again s r m ok is-packet within st =
    let p = sent.message m s [] in
    let a : Accepted s m = subst (λ (x : List ℕ). Accepted x m) (sym is-packet) (accepts m ok) in
    let raised_is : raised s [] ≡ s = ap (λ (x : List ℕ). raised x []) is-packet ∙ raised-none m ∙ sym is-packet in
    let fits : length s + 0 ≤ limit = omega arith in
    let here : drop 0 s ≡ raised s [] ++ [] = sym (append-nil (raised s []) ∙ raised_is) in
    let same-report : r ≡ expected_view 0 p = ap (report_in r) (sym st ∙ finds s 0 p [] (a, fits) here) in
    record { message_of = m; accepted = a; same = ap (looked s) same-report ∙ looks s 0 p [] (a, fits) here }

pub writes-packet : claims.WritesPacket
writes-packet s h rest r k start hint v hs e mn ct pt st con =
    let f : Reported 0 s r (length s) = reported s 0 st in
    let same_base : f.base ≡ h = ap (value_or f.base) (sym f.reads-base ∙ e) in
    let base : Starts h (length s) = rw same_base at f.starts_with in
    let next-is : length s ≡ 0 + size_field h = rw same_base at f.next-is in
    let size_is : size_field h ≡ length s = omega arith in
    let within : length s ≤ limit = rw size_is at base.most in
    let holds : r.content ≡ content_at 0 h (take (size_field h) s) = rw same_base at f.holds in
    let whole : take (size_field h) s ≡ s = ap (λ (n : ℕ). take n s) size_is ∙ take_all (length s) s (omega arith) in
    let added : added_in (content_at 0 h s) ≡ some 0 = ap (λ (x : List ℕ). added_in (content_at 0 h x)) (sym whole) ∙ ap added_in (sym holds ∙ con) in
    let t = told-content 0 h s added in
    let b = rebuilt s h rest t hs e base.cookie-is base.major-is mn size_is ct pt within in
    reported-again s r (message_of h t) b.0 b.1 within st
