-- The claims, from top to bottom: the theorems of the three demands, as statements. Each is proved under its name in the file of proofs/ named beside it.
use Rattle.std.specs.Prelude.{ℕ, ◌≤◌, ◌≡◌, true, ◌⊎◌, List, [], ◌∷◌, ◌++◌, map, length}
use Rattle.std.proofs.Math.Option.{Option, some}
use Rattle.format.specs.Format.{Value, got, refused, decode, encode, size, All, Bytes, Valid}
use Rattle.format.specs.Refusals.{refusals, is_one_of}
use Rattle.format.specs.View.{View, seen, view, place, look}
use Rattle.format.specs.Copy.{copy_cstring, copy_ucs2, copy_numbers, Copies}
use Rattle.format.specs.Walk.{stop, report, reports, keep, Ended}
use Rattle.protocol.specs.Layer.{header, minor_field, count_field, part_field}
use Rattle.protocol.specs.Kind.{Kind, body_of}
use Rattle.protocol.specs.Step as reported
use Rattle.protocol.specs.Step.{Report, step_at, walk, looked}
use Rattle.protocol.specs.Message.{Message, Sendable, packet}
use Rattle.writing.specs.Call.{Call, Typed}
use Rattle.writing.specs.Writer.{Writer, idle, apply, call_refusals}
use Rattle.stream.specs.Accepted.{after, closing, Closed, Accepted}
use Rattle.stream.specs.Packets.{Packet, message, bytes, Admissible, stream, expected, Struck, message_alike}

-- ---- demand 1: bad input gets one number of the table, and a refused call keeps state and output

-- body-numbers (Numbers): a body is refused with a number of its format: 7 in numbers and counts, 8 or 19 in strings, 9 or 10 in type bytes
abbrev pub BodyNumbers : Type 0
BodyNumbers = (k : Kind) (s : List ℕ) (n : ℕ) → decode (body_of k) s ≡ refused n → is_one_of (refusals (body_of k)) n ≡ true

-- the numbers with which a packet is refused
abbrev pub packet_refusals : List ℕ
packet_refusals = 6 ∷ 7 ∷ 8 ∷ 9 ∷ 10 ∷ 19 ∷ []

-- step-numbers (Numbers): a step stops with 0 to 5, at its own offset, and a packet is refused with 6 to 10 or 19
abbrev pub StepNumbers : Type 0
StepNumbers = (s : List ℕ) (at : ℕ) → ((n o : ℕ) → step_at s at ≡ stop n o → (n ≤ 5) × (o ≡ at))
    × ((r : Report View) (next n : ℕ) → step_at s at ≡ report r next → r.content ≡ reported.refusal n → is_one_of packet_refusals n ≡ true)

-- call-numbers (Numbers): a call is taken with 0, or refused with 11 to 15 or 19 and leaves state and output as they were
abbrev pub CallNumbers : Type 0
CallNumbers = (c : Call) (w : Writer) (o : List ℕ)
    → ((apply c w o).number ≡ 0)
    ⊎ ((is_one_of call_refusals (apply c w o).number ≡ true) × ((apply c w o).writer ≡ w) × ((apply c w o).output ≡ o))

-- copy-numbers (Numbers): a copy is taken, or refused with the output as it was, a string's with 8 or 13, never 19, a list's with 7 or 13
abbrev pub CopyNumbers : Type 0
CopyNumbers = (s : List ℕ) (at : ℕ) (out : List ℕ)
    → Copies 8 out (copy_cstring s at out) × Copies 8 out (copy_ucs2 s at out) × ((w n : ℕ) → Copies 7 out (copy_numbers w s at n out))

-- numbers (Numbers)
abbrev pub Numbers : Type 0
Numbers = BodyNumbers × StepNumbers × CallNumbers × CopyNumbers

-- ends (Numbers): on every slice the walk ends with a number 0 to 5, and the sizes walked and the unwalked rest make up its length
abbrev pub Ends : Type 0
Ends = (s : List ℕ) → Ended (λ n. n ≤ 5) (λ (r : Report View). r.size) s 0 (walk s)

abbrev pub Demand1 : Type 0
Demand1 = Numbers × Ends

-- ---- demand 2: reading and writing undo each other, added bytes apart

-- reads-body (Bodies): a body that was written is read back whatever stands behind it, with as many bytes taken as were written, and its view finds the value
abbrev pub ReadsBody : Type 0
ReadsBody = (k : Kind) (v : Value (body_of k)) (added : List ℕ) → Valid (body_of k) v
    → (view (body_of k) (encode (body_of k) v ++ added) 0 ≡ seen (place (body_of k) 0 v) (size (body_of k) v))
    × (look (body_of k) (encode (body_of k) v ++ added) (place (body_of k) 0 v) ≡ v)
    × (length (encode (body_of k) v) ≡ size (body_of k) v)

-- reads-packet (Bodies): a packet that the writer accepted is reported as its message, with every value and no added bytes
abbrev pub ReadsPacket : Type 0
ReadsPacket = (s : List ℕ) (m : Message) → Accepted s m
    → (map (looked s) (walk s).0 ≡ expected 0 (message m s []) ∷ []) × ((walk s).1 ≡ some (0, length s))

-- reads-written
abbrev pub ReadsWritten : Type 0
ReadsWritten = ReadsBody × ReadsPacket

-- writes_body (Bodies): what was read of a body is valid, and is written as the bytes that were taken
abbrev pub WritesBody : Type 0
WritesBody = (k : Kind) (s : List ℕ) (v : Value (body_of k)) (rest : List ℕ) → Bytes s → decode (body_of k) s ≡ got v rest
    → Valid (body_of k) v × (s ≡ encode (body_of k) v ++ rest)

-- some calls write exactly these bytes, and the values given to them are those reported
pub record Rewritten (s : List ℕ) (r : Report View) : Type 0 where
  pub message_of : Message
  pub accepted : Accepted s message_of
  pub same : looked s r ≡ expected 0 (message message_of s [])

-- writes-packet (Rewritten): a packet of minor 0, count 1, part 0 that is reported as a message without added bytes is written again
abbrev pub WritesPacket : Type 0
WritesPacket = (s : List ℕ) (h : Value header) (rest : List ℕ) (r : Report View) (k : Kind) (start : ℕ) (hint : Option ℕ) (v : View (body_of k))
    → Bytes s → decode header s ≡ got h rest → minor_field h ≡ 0 → count_field h ≡ 1 → part_field h ≡ 0
    → step_at s 0 ≡ report r (length s) → r.content ≡ reported.message k start hint v 0 → Rewritten s r

-- writes-read
abbrev pub WritesRead : Type 0
WritesRead = WritesBody × WritesPacket

-- accepts (Accepts): every message that can be sent is accepted, as its packet
abbrev pub Accepts : Type 0
Accepts = (m : Message) → Sendable m → Accepted (packet m) m

abbrev pub Demand2 : Type 0
Demand2 = ReadsWritten × WritesRead × Accepts

-- ---- demand 3: every list of packets laid end to end

-- written (Written): every list of calls, refused ones included, from a fresh or closed state, on any output: whenever a close is taken, the taken calls since
-- the open gave one message, and the output's first bytes, as many as the size field says, are its packet
abbrev pub Written : Type 0
Written = (cs : List Call) (w : Writer) (o : List ℕ) → All Typed cs → w.turn ≡ idle → (closing (after cs w o)).number ≡ 0 → Closed (after cs w o)

-- accepted-is (Written): the bytes as which a message was accepted are its packet, and the message can be sent
abbrev pub AcceptedIs : Type 0
AcceptedIs = (s : List ℕ) (m : Message) → Accepted s m → Sendable m × (s ≡ packet m)

-- messages' reports alike in both streams: as many and, one by one in order, equal but for offsets, by the values and by the views
abbrev pub Alike : List Packet → List Packet → Type 0
Alike ps qs = (keep message_alike (map (looked (stream qs)) (walk (stream qs)).0) ≡ keep message_alike (map (looked (stream ps)) (walk (stream ps)).0))
    × (keep message_alike (walk (stream qs)).0 ≡ keep message_alike (walk (stream ps)).0)

-- what the walk from the first byte tells of a stream: exactly the reports due, in order, each at the sum of the sizes before it, a message's with the
-- values given to the calls, found in the slice by the report's views; then the end, with 0 at the slice's end; and whichever unknown packets and
-- fragments are struck, the messages' reports are alike
pub record Told (ps : List Packet) : Type 0 where
  pub walked : map (looked (stream ps)) (walk (stream ps)).0 ≡ reports bytes expected 0 ps
  pub ended : (walk (stream ps)).1 ≡ some (0, length (stream ps))
  pub struck : (qs : List Packet) → Struck ps qs → Alike ps qs

-- walked (Walked): of every list of admissible packets laid end to end
abbrev pub Walked : Type 0
Walked = (ps : List Packet) → All Admissible ps → Told ps

abbrev pub Demand3 : Type 0
Demand3 = Written × AcceptedIs × Walked
