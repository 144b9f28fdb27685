-- The hypotheses on packets leave none out: every long enough packet has its base header and layer header, and a message with bytes added is a valid packet
-- exactly if it is within the limit.
use Prim.Native.Nat.{ℕ, ◌+◌, ◌^◌, ◌≤◌, ◌<◌}
use mathlib.Core.Path.{◌≡◌, refl, sym, ap, ◌∙◌, subst}
use mathlib.Core.Bool.{Bool, true, false, false≢true}
use mathlib.Core.List.{List, [], ◌++◌, append-nil}
use native.Mathlib.Omega.{arith}
use lib.ListN.{length, drop, length-append, length-drop}
use lib.Seq.{length-sets}
use Rattle.format.specs.Format.{Value, number, got, decode, encode, Bytes}
use Rattle.format.proofs.Reading.{given}
use Rattle.format.proofs.Codec.{encode-bytes, bytes-append}
use Rattle.format.proofs.Width.{decode-behind, size-is-width}
use Rattle.format.proofs.Passing.{There, plain-there}
use Rattle.format.specs.Walk.{Step, stop, report}
use Rattle.format.specs.Fault.{limit}
use Rattle.protocol.specs.Layer.{Layer, header_length, header, layer_header}
use Rattle.protocol.specs.Kind.{Kind, layer, content_type, body_of}
use Rattle.protocol.specs.Step.{step_rest, step_at}
use Rattle.protocol.specs.Message.{Message, header_of, headers_of, packet_size, raised}
use Rattle.protocol.specs.Packet.{ValidPacket, Whole}
use Rattle.protocol.proofs.Headers.{header-length, header-valid, hint_read, hint-fits, hint-sent, type-fits, headers-read, behind-header}
use Rattle.protocol.proofs.Found.{valid-starts, sent, length-sent, step-message}
use Rattle.stream.specs.Accepted.{Accepted}
use Rattle.stream.proofs.Walked.{is-sent}

-- ---- every packet of 20 bytes has a base header, every longer one of a known layer its layer header

pub record HasHeader (s : List ℕ) : Type 0 where
  pub base : Value header
  pub headed : decode header s ≡ got base (drop 20 s)

pub has-header : (s : List ℕ) → 20 ≤ length s → HasHeader s
has-header s l =
    let t = plain-there header (tt, (tt, (tt, (tt, (tt, (tt, (tt, tt))))))) s l in
    let z = size-is-width header (tt, (tt, (tt, (tt, (tt, (tt, (tt, tt))))))) t.value in
    let rest : t.behind ≡ drop 20 s = (given (decode-behind header s) t.reads).rest ∙ ap (λ (n : ℕ). drop n s) z in
    record { base = t.value; headed = t.reads ∙ ap (λ (x : List ℕ). got t.value x) rest }

pub has-layer-header : (l : Layer) (s : List ℕ) → header_length l ≤ length s → There (decode (layer_header l) (drop 20 s))
has-layer-header l s h = plain-there (layer_header l) (tt, tt) (drop 20 s) (omega (arith, header-length l, length-drop 20 s))

-- ---- a message with bytes added that is valid by its base header is within the limit

pub valid-message : (h : Value header) (accepted added : List ℕ) → ValidPacket h (raised accepted added) → length accepted + length added ≤ limit
valid-message h accepted added v =
    omega (
      arith,
      v.sized,
      (valid-starts h (raised accepted added) v).most,
      length-sets (accepted ++ added) 8 (encode (number 4)
          (length accepted + length added)),
      length-append accepted added,
    )

-- ---- and one within the limit is valid by its base header, and whole

headers-bytes : (k : Kind) (n request hint : ℕ) → n < 256 ^ 4 → request < 65536 → hint < 4294967296 → Bytes (headers_of k n request hint)
unfolding headers_of
headers-bytes k n request hint hn hr hh =
    let l = layer k in
    let a = encode header (header_of l n request) in
    let b = encode (layer_header l) (content_type k, hint_read l hint) in
    let both : Bytes (a ++ b) = bytes-append a b (encode-bytes header (header_of l n request) (header-valid l n request hn hr))
    (encode-bytes (layer_header l) (content_type k, hint_read l hint) (type-fits k, hint-fits l hint hh)) in
    subst (λ (x : List ℕ). Bytes (a ++ x)) (sym (hint-sent l (content_type k) hint)) both

no_stop : {R : Type 0} {r : R} {k n o : ℕ} → report r k ≡ stop n o → ⊥
no_stop {R} e = false≢true (ap is_stop e)
  where
    is_stop : Step R → Bool
    is_stop (stop n o) = true
    is_stop (report r k) = false

pub message-valid : (m : Message) (accepted added : List ℕ) → Accepted accepted m → Bytes added → length accepted + length added ≤ limit
    → let h = header_of (layer m.kind) (packet_size m + length added) m.request in ValidPacket h (raised accepted added) × Whole h
unfolding step_at
message-valid m accepted added a bs l =
    let k = m.kind in
    let t = is-sent m accepted added a l in
    let n = packet_size m + length added in
    let b = encode (body_of k) m.value in
    let f = headers_of k n m.request m.hint in
    let small : n < 256 ^ 4 = omega (arith, t.within) in
    let h = header_of (layer k) n m.request in
    let octets : Bytes (sent m added) =
    bytes-append f (b ++ added) (headers-bytes k n m.request m.hint small t.ok.request_fits t.ok.hint-fits)
    (bytes-append b added (encode-bytes (body_of k) m.value t.ok.valid) bs) in
    let headed : decode header (sent m added) ≡ got h (drop 20 (sent m added)) =
    headers-read k n m.request m.hint (b ++ added) small t.ok.request_fits
    ∙ ap (λ (x : List ℕ). got h x) (sym (behind-header k n m.request m.hint (b ++ added))) in
    let reports : step_at (sent m added) 0 ≡ report _ _ = ap (step_rest 0) (sym (append-nil (sent m added))) ∙ step-message 0 m added [] t.ok t.within in
    let valid : ValidPacket h (sent m added) = record {
      octets = octets;
      headed = headed;
      sized = sym (length-sent m added);
      passes = λ i p q e. no_stop (sym reports ∙ e);
    } in
    let one : 1 ≤ 1 = omega arith in
    (subst (ValidPacket h) (sym t.as-sent) valid, (one, refl))
