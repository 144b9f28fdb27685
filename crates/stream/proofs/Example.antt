-- One run of the writer with refused calls in it, and one stream, by computation: the claims are not empty.
use Prim.Native.Nat.{ℕ, ◌≤◌, ◌<◌}
use mathlib.Core.Path.{◌≡◌, refl, ap}
use mathlib.Core.Bool.{Bool, true, false, false≢true}
use mathlib.Core.List.{List, [], ◌∷◌, map}
use mathlib.Core.Option.{none}
use native.Mathlib.Omega.{arith}
use Rattle.format.specs.Format.{Value, decode_number, decode, encode_number, encode, decode_items, decode_ucs2, size, total}
use Rattle.format.specs.Fault.{any, holds_zero, over_limit, too_long, limit}
use Rattle.format.specs.View.{seen, view, placed, place, look, steps, stepped, units_of}
use Rattle.format.specs.Walk.{Step, stop, report, reports}
use Rattle.protocol.specs.Layer.{header}
use Rattle.protocol.specs.Kind.{UNam, Capa, FixtureList, body_of, fixture_data_format}
use Rattle.protocol.specs.Step as reported
use Rattle.protocol.specs.Step.{read_body, content_at, step_at, walk, looked}
use Rattle.protocol.specs.Message.{Message, headers_of}
use Rattle.writing.specs.Call.{Call, opens, give, closes, body, feed_name}
use Rattle.writing.specs.Writer.{Writer, idle, Progress, apply, step, run}
use Rattle.stream.specs.Packets.{Packet, message, fragment, stream, Admissible}
use Rattle.stream.specs.Accepted.{Accepted}
use Rattle.stream.proofs.Walked.{walked}

-- a name out of turn, an open, another open, a body with a zero in its name, a close too early, the body
abbrev pub calls : List Call
calls = give (feed_name []) ∷ opens UNam 7 0 ∷ opens Capa 0 0 ∷ give (body UNam (3, 0x41 ∷ 0 ∷ [])) ∷ closes ∷ give (body UNam (3, 0x41 ∷ [])) ∷ []

-- a closed state, wherever it stands, and an output that holds something
abbrev pub closed_state : Writer
closed_state = record { turn = idle; at = 77 }

abbrev pub output : List ℕ
output = 9 ∷ 9 ∷ 9 ∷ 9 ∷ 9 ∷ 9 ∷ 9 ∷ 9 ∷ 9 ∷ 9 ∷ 9 ∷ 9 ∷ 9 ∷ 9 ∷ 9 ∷ 9 ∷ 9 ∷ 9 ∷ 9 ∷ 9 ∷ 9 ∷ 9 ∷ 9 ∷ 9 ∷ 9 ∷ 9 ∷ 9 ∷ 9 ∷ []

-- the number of each call
unfoldable pub answers : List Call → Progress → List ℕ
answers [] s = []
answers (c ∷ cs) s = (apply c s.writer s.output).number ∷ answers cs (step c s)

pub answered : answers calls (record { writer = closed_state; output = output; taken = [] }) ≡ 14 ∷ 0 ∷ 14 ∷ 11 ∷ 14 ∷ 0 ∷ []
unfolding answers step apply headers_of encode encode_number holds_zero over_limit too_long any
answered = refl

-- universe 3 is named A
abbrev pub name : Message
name = record { kind = UNam; request = 7; hint = 0; value = (3, 0x41 ∷ []) }

abbrev pub name_bytes : List ℕ
name_bytes =
    0x43 ∷ 0x49 ∷ 0x54 ∷ 0x50 ∷ 1 ∷ 0 ∷ 7 ∷ 0 ∷ 0x1B ∷ 0 ∷ 0 ∷ 0 ∷ 1 ∷ 0 ∷ 0 ∷ 0 ∷ 0x53 ∷ 0x44 ∷ 0x4D ∷ 0x58 ∷ 0x55 ∷ 0x4E ∷ 0x61 ∷ 0x6D ∷ 3 ∷ 0x41 ∷ 0 ∷ []

pub name-accepted : Accepted name_bytes name
unfolding run step apply headers_of encode encode_number holds_zero over_limit too_long any decode decode_number
name-accepted =
    let byte : 3 < 256 = omega arith in
    let letter : 0x41 < 256 = omega arith in
    let zero-byte : 0 < 256 = omega arith in
    let request : 7 < 65536 = omega arith in
    let none-given : 0 < 65536 = omega arith in
    let hint : 0 < 4294967296 = omega arith in
    record {
      calls = calls;
      writer = closed_state;
      output = output;
      typed = (tt, ((request, hint), ((none-given, hint), ((byte, (letter, (zero-byte, tt))), (tt, ((byte, (letter, tt)), tt))))));
      fresh = refl;
      gave = refl;
      closed = refl;
      stands = refl;
    }

-- part 1 of 2, of a layer that nobody knows
abbrev pub part : List ℕ
part = 0x43 ∷ 0x49 ∷ 0x54 ∷ 0x50 ∷ 1 ∷ 0 ∷ 0 ∷ 0 ∷ 0x15 ∷ 0 ∷ 0 ∷ 0 ∷ 2 ∷ 0 ∷ 1 ∷ 0 ∷ 1 ∷ 0 ∷ 0 ∷ 0 ∷ 0xEE ∷ []

abbrev pub part_header : Value header
part_header = (0x50544943, (1, (0, (0, (0x15, (2, (1, 1)))))))

abbrev is_stop : {R : Type 0} → Step R → Bool
is_stop (stop n o) = true
is_stop (report r k) = false

part-admissible : Admissible (fragment part_header part)
unfolding step_at content_at read_body decode decode_number
part-admissible =
    let b0 : 0 < 256 = omega arith in
    let b1 : 1 < 256 = omega arith in
    let b2 : 2 < 256 = omega arith in
    let b3 : 0x15 < 256 = omega arith in
    let c : 0x43 < 256 = omega arith in
    let i : 0x49 < 256 = omega arith in
    let t : 0x54 < 256 = omega arith in
    let p : 0x50 < 256 = omega arith in
    let e : 0xEE < 256 = omega arith in (
      record {
        octets = (c, (i, (t, (p, (b1, (b0, (b0, (b0, (b3, (b0, (b0, (b0, (b2, (b0, (b1, (b0, (b1, (b0, (b0, (b0, (e, tt)))))))))))))))))))));
        headed = refl;
        sized = refl;
        passes = λ n l m x. false≢true (ap is_stop x);
      },
      λ w. let few : 2 ≤ 1 = w.0 in absurd (omega arith),
    )

abbrev pub packets : List Packet
packets = fragment part_header part ∷ message name name_bytes (0xFF ∷ []) ∷ []

pub told : map (looked (stream packets)) (walk (stream packets)).0
    ≡ record { offset = 0; size = 21; request = 0; content = reported.fragment 1 2 }
    ∷ record { offset = 21; size = 28; request = 7; content = reported.message UNam 45 none (3, 0x41 ∷ []) 1 } ∷ []
unfolding reports
told = let few : 28 ≤ limit = omega arith in (walked packets (part-admissible, ((name-accepted, few), tt))).walked

-- ---- a fixture list of one fixture with two identifiers and a NaN among its floats, found again by stepping

abbrev pub fixture_body : List ℕ
fixture_body =
    2 ∷ 1 ∷ 0 ∷ 7 ∷ 0 ∷ 0 ∷ 0 ∷ 0x41 ∷ 0 ∷ 0 ∷ 0 ∷ 0 ∷ 0 ∷ 0x42 ∷ 0x20 ∷ 0 ∷ 0 ∷ 0x10 ∷ 0 ∷ 1 ∷ 2 ∷ 5 ∷ 2 ∷ 0 ∷ 8 ∷ 9 ∷ 0 ∷ 0 ∷ 0 ∷ 1 ∷ 2 ∷ 3 ∷ 0 ∷ 0x43 ∷ 0 ∷ 0 ∷ 0 ∷ 4 ∷ 0
    ∷ 0 ∷ 0 ∷ 0 ∷ 0 ∷ 1 ∷ 0 ∷ 0xC0 ∷ 0x7F ∷ 0 ∷ 0 ∷ 0x80 ∷ 0x3F ∷ 0 ∷ 0 ∷ 0 ∷ 0 ∷ 0 ∷ 0 ∷ 0 ∷ 0 ∷ 0 ∷ 0 ∷ 0 ∷ 0 ∷ 0 ∷ 0 ∷ 0 ∷ 0 ∷ 0xFF ∷ []

abbrev pub fixture_data : Value fixture_data_format
fixture_data = (1, (2, (3, (0x43 ∷ [], (4, ([], ([], (0x7FC00001, (0x3F800000, (0, (0, (0, 0))))))))))))

abbrev pub fixture_value : Value (body_of FixtureList)
fixture_value = (2, (7, (0x41 ∷ [], ([], (0x2042 ∷ [], (16, (1, ((5, 8 ∷ 9 ∷ []) ∷ (0, []) ∷ [], fixture_data))))))) ∷ [])

pub one-fixture : (view (body_of FixtureList) fixture_body 0 ≡ seen (2, (3, 1)) 67) × (look (body_of FixtureList) fixture_body (2, (3, 1)) ≡ fixture_value)
unfolding view placed place size total decode decode_number decode_items decode_ucs2 look steps stepped units_of
one-fixture = (refl, refl)
