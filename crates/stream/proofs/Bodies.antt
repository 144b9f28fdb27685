-- Reading undoes writing and writing undoes reading, on bodies of every kind and on packets that the writer accepted.
use Prim.Native.Nat.{ℕ, ◌+◌, ◌≤◌}
use mathlib.Core.Path.{◌≡◌, sym, ap, ◌∙◌}
use mathlib.Core.List.{List, [], ◌∷◌, ◌++◌, append-nil}
use native.Mathlib.Omega.{arith}
use native.Mathlib.Nat.{add-zero, zero-add}
use lib.ListN.{length}
use Rattle.format.specs.Format.{encode, concat_map}
use Rattle.format.proofs.Reading.{given}
use Rattle.format.proofs.Codec.{round_trip, read_back}
use Rattle.format.proofs.Width.{size-is-length}
use Rattle.format.specs.View.{view, placed}
use Rattle.format.proofs.Look.{holds}
use Rattle.format.specs.Walk.{reports}
use Rattle.format.specs.Fault.{limit}
use Rattle.protocol.specs.Kind.{body_of}
use Rattle.protocol.specs.Message.{Message, headers_of, packet_size, packet, raised}
use Rattle.stream.specs.Packets.{message, stream}
use Rattle.stream.specs.Claims as claims
use Rattle.stream.proofs.Written.{accepted-is}
use Rattle.protocol.proofs.Found.{length-packet, raised-packet}
use Rattle.stream.proofs.Walked.{walked}

pub reads-body : claims.ReadsBody
unfolding view placed
reads-body k v added h = (
  rw (round_trip (body_of k) v added h, zero-add),
  given (holds (body_of k) (encode (body_of k) v ++ added) 0) (round_trip (body_of k) v added h),
  sym (size-is-length (body_of k) v),
)

pub writes_body : claims.WritesBody
writes_body k s v rest hs e = read_back (body_of k) s hs e

-- nothing added: the size field is raised to what it was
pub raised-none : (m : Message) → raised (packet m) [] ≡ packet m
unfolding packet
raised-none m =
    raised-packet m []
    ∙ ap (λ (n : ℕ). headers_of m.kind n m.request m.hint ++ (encode (body_of m.kind) m.value ++ [])) (add-zero (packet_size m))
    ∙ ap (λ (b : List ℕ). headers_of m.kind (packet_size m) m.request m.hint ++ b) (append-nil (encode (body_of m.kind) m.value))

alone : (s : List ℕ) (m : Message) → s ≡ packet m → stream (message m s [] ∷ []) ≡ s
unfolding concat_map
alone s m e = append-nil (raised s []) ∙ ap (λ (x : List ℕ). raised x []) e ∙ raised-none m ∙ sym e

pub reads-packet : claims.ReadsPacket
unfolding reports
reads-packet s m a =
    let is = accepted-is s m a in
    let small : packet_size m ≤ limit = is.0.within in
    let long : length s ≡ packet_size m = ap length is.1 ∙ length-packet m in
    let fits : length s + 0 ≤ limit = omega arith in
    let w = walked (message m s [] ∷ []) ((a, fits), tt) in
    let one = alone s m is.1 in
    (rw one at w.walked, rw one at w.ended)
