-- The offsets of a sender's packets that a receiver does not support by its capabilities, and what a call that lists them answers.
use Rattle.std.specs.Prelude.{ℕ, Bool, false, not, ◌&&◌, ◌||◌, List, ◌++◌, length, drop, ltb}
use Rattle.std.proofs.Math.Option.{Option, none, some}
use Rattle.format.specs.Format.{Format, pick}
use Rattle.format.specs.Refusals.{is_one_of}
use Rattle.format.specs.Walk.{keep}
use Rattle.protocol.specs.Kind.{Kind, ChLs, Sxus, same_kind}
use Rattle.protocol.specs.Step.{Content, message, unknown, fragment, refusal, Report, walk}

-- ---- the offsets of messages

-- a packet reported as a message of a kind that passes the test
abbrev pub is_message_of : {Fields : Format → Type 0} → (Kind → Bool) → Content Fields → Bool
is_message_of test (message k start hint v added) = test k
is_message_of test (unknown c t) = false
is_message_of test (fragment p n) = false
is_message_of test (refusal n) = false

-- the offset of such a packet
abbrev pub offset_of : {Fields : Format → Type 0} → (Kind → Bool) → Report Fields → Option ℕ
offset_of test r = pick (is_message_of test r.content) (some r.offset) none

-- the offsets of such packets of a stream, in the order of the walk
unfoldable pub offsets_of : (Kind → Bool) → List ℕ → List ℕ
offsets_of test s = keep (offset_of test) (walk s).0

-- the number of a walk's end; 0 for none, which no stream gives
abbrev pub end_number : Option (ℕ × ℕ) → ℕ
end_number none = 0
end_number (some e) = e.0

-- the number with which the walk over a stream ends
unfoldable pub stop_of : List ℕ → ℕ
stop_of s = end_number (walk s).1

-- ---- what a receiver does not support

-- ChLs where channel lists are not supported, Sxus where per-universe external sources are not
abbrev pub lacking : (lists sources : Bool) → Kind → Bool
lacking lists sources k = (same_kind k ChLs && not lists) || (same_kind k Sxus && not sources)

-- capability 1 is channel lists, 3 per-universe external sources
abbrev pub unsupported : (capabilities : List ℕ) → Kind → Bool
unsupported capabilities k = lacking (is_one_of capabilities 1) (is_one_of capabilities 3) k

-- the offsets of all ChLs packets if 1 is absent, and of all Sxus packets if 3 is
abbrev pub unsupported_offsets : (capabilities stream : List ℕ) → List ℕ
unsupported_offsets capabilities s = offsets_of (unsupported capabilities) s

-- ---- the answer

-- the number of the call, how many offsets there are, the number of the walk's end, and the lent list afterwards: 13 where it is too short
-- for them, and then as it was; else the offsets from its first place on, and the rest as it was
abbrev pub listed : (offsets : List ℕ) (stop : ℕ) (out : List ℕ) → ℕ × ℕ × ℕ × List ℕ
listed offsets stop out =
    pick (ltb (length out) (length offsets)) (13, length offsets, stop, out) (0, length offsets, stop, offsets ++ drop (length offsets) out)

-- what the call answers
abbrev pub answer : (capabilities stream out : List ℕ) → ℕ × ℕ × ℕ × List ℕ
answer capabilities s out = listed (unsupported_offsets capabilities s) (stop_of s) out
