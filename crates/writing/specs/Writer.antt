-- The writer's state, whose turn it is, and what each call does to state and output.
use Rattle.std.specs.Prelude.{ℕ, zero, suc, ◌+◌, ◌-◌, Bool, true, false, ◌&&◌, List, [], ◌∷◌, ◌++◌, length, eqb, leb, ltb}
use Rattle.std.proofs.lemmas.List.Edits.{sets}
use Rattle.format.specs.Format.{number, pick, encode}
use Rattle.format.specs.Fault.{weighed}
use Rattle.protocol.specs.Layer.{header_length}
use Rattle.protocol.specs.Kind.{Kind, layer, same_kind, FixtureList, LaserFeedList, LaserFeedFrame}
use Rattle.writing.specs.Call.{Part, body, laser_feed_list, feed_name, laser_feed_frame, laser_point, fixture_list, fixture, identifier, fixture_data}
use Rattle.writing.specs.Call.{Call, opens, give, closes, bytes_of, zero_in, over_limit_in, too_long_in, form, is_flat_form}

-- fresh or closed; open, the body or the list's head due; so many items due, and with none left close;
-- in a fixture: so many fixtures due behind it, and so many identifiers, then its data
pub data Turn : Type 0 where
  idle : Turn
  body_due : Kind → Turn
  items_due : Kind → (items : ℕ) → Turn
  parts_due : (fixtures identifiers : ℕ) → Turn

-- the turn and the place: how many bytes of the packet stand
pub record Writer : Type 0 where
  pub turn : Turn
  pub at : ℕ

-- ---- whose turn it is

abbrev pub is_idle : Turn → Bool
is_idle idle = true
is_idle (body_due j) = false
is_idle (items_due j n) = false
is_idle (parts_due n i) = false

abbrev pub is_body : Kind → Turn → Bool
is_body k idle = false
is_body k (body_due j) = same_kind j k
is_body k (items_due j n) = false
is_body k (parts_due n i) = false

abbrev pub is_item : Kind → Turn → Bool
is_item k idle = false
is_item k (body_due j) = false
is_item k (items_due j n) = same_kind j k && ltb 0 n
is_item k (parts_due n i) = false

abbrev pub is_identifier : Turn → Bool
is_identifier idle = false
is_identifier (body_due j) = false
is_identifier (items_due j n) = false
is_identifier (parts_due n i) = ltb 0 i

abbrev pub is_data : Turn → Bool
is_data idle = false
is_data (body_due j) = false
is_data (items_due j n) = false
is_data (parts_due n i) = eqb i 0

abbrev pub is_close : Turn → Bool
is_close idle = false
is_close (body_due j) = false
is_close (items_due j n) = eqb n 0
is_close (parts_due n i) = false

-- kinds whose body is given in one call
abbrev pub is_flat : Kind → Bool
is_flat k = is_flat_form (form k)

abbrev pub part_in_turn : Part → Turn → Bool
part_in_turn (body k v) t = is_flat k && is_body k t
part_in_turn (laser_feed_list key count) t = is_body LaserFeedList t
part_in_turn (feed_name name) t = is_item LaserFeedList t
part_in_turn (laser_feed_frame key feed sequence count) t = is_body LaserFeedFrame t
part_in_turn (laser_point v) t = is_item LaserFeedFrame t
part_in_turn (fixture_list type count) t = is_body FixtureList t
part_in_turn (fixture v count) t = is_item FixtureList t
part_in_turn (identifier v) t = is_identifier t
part_in_turn (fixture_data v) t = is_data t

abbrev pub in_turn : Call → Turn → Bool
in_turn (opens k request hint) t = is_idle t
in_turn (give p) t = part_in_turn p t
in_turn closes t = is_close t

-- an open state is placed at or behind its headers' end
abbrev pub behind_headers : Turn → ℕ → Bool
behind_headers idle at = true
behind_headers (body_due k) at = leb (header_length (layer k)) at
behind_headers (items_due k n) at = leb (header_length (layer k)) at
behind_headers (parts_due n i) at = leb (header_length (layer FixtureList)) at

-- ---- the next turn

-- the items, or fixtures, still due
abbrev pub left : Turn → ℕ
left idle = 0
left (body_due k) = 0
left (items_due k n) = n
left (parts_due n i) = n

abbrev pub identifiers_left : Turn → ℕ
identifiers_left idle = 0
identifiers_left (body_due k) = 0
identifiers_left (items_due k n) = 0
identifiers_left (parts_due n i) = i

abbrev pub next_part : Part → Turn → Turn
next_part (body k v) t = items_due k 0
next_part (laser_feed_list key count) t = items_due LaserFeedList count
next_part (feed_name name) t = items_due LaserFeedList (left t - 1)
next_part (laser_feed_frame key feed sequence count) t = items_due LaserFeedFrame count
next_part (laser_point v) t = items_due LaserFeedFrame (left t - 1)
next_part (fixture_list type count) t = items_due FixtureList count
next_part (fixture v count) t = parts_due (left t - 1) count
next_part (identifier v) t = parts_due (left t) (identifiers_left t - 1)
next_part (fixture_data v) t = items_due FixtureList (left t)

abbrev pub next_turn : Call → Turn → Turn
next_turn (opens k request hint) t = body_due k
next_turn (give p) t = next_part p t
next_turn closes t = idle

-- ---- a call

-- the place at which a call writes: a packet starts at the output's first byte
abbrev pub start_of : Call → ℕ → ℕ
start_of (opens k request hint) at = 0
start_of (give p) at = at
start_of closes at = at

-- the place after it
abbrev pub end_of : Call → ℕ → ℕ
end_of c at = start_of c at + length (bytes_of c)

-- the output after a taken call: close fills the size field and writes nothing else
abbrev pub stored : Call → ℕ → List ℕ → List ℕ
stored (opens k request hint) at o = sets o 0 (bytes_of (opens k request hint))
stored (give p) at o = sets o at (bytes_of (give p))
stored closes at o = sets o 8 (encode (number 4) at)

-- the number of a call: 14 out of turn, then 11, 19, 12, 15, 13; or 0
abbrev pub weigh : (due zeros over long : Bool) (end room : ℕ) → ℕ
weigh due zeros over long end room = pick due (weighed zeros over long end room) 14

-- the numbers with which a call is refused
abbrev pub call_refusals : List ℕ
call_refusals = 11 ∷ 12 ∷ 13 ∷ 14 ∷ 15 ∷ 19 ∷ []

-- what a call leaves: its number, the state and the output
pub record Outcome : Type 0 where
  pub number : ℕ
  pub writer : Writer
  pub output : List ℕ

-- taken with 0; refused with any other number, which leaves state and output as they were
abbrev pub settled : ℕ → Call → Writer → List ℕ → Outcome
settled zero c w o = record { number = 0; writer = record { turn = next_turn c w.turn; at = end_of c w.at }; output = stored c w.at o }
settled (suc n) c w o = record { number = suc n; writer = w; output = o }

abbrev pub number_of : Call → Writer → List ℕ → ℕ
number_of c w o =
    weigh (in_turn c w.turn && behind_headers w.turn w.at) (zero_in c) (over_limit_in c) (too_long_in c) (end_of c w.at) (length o)

unfoldable pub apply : Call → Writer → List ℕ → Outcome
apply c w o = settled (number_of c w o) c w o

-- ---- a list of calls, each on the state that the call before returned, all on one output

-- state and output, and the taken calls since the last open
pub record Progress : Type 0 where
  pub writer : Writer
  pub output : List ℕ
  pub taken : List Call

abbrev pub noted : Call → List Call → List Call
noted (opens k request hint) cs = opens k request hint ∷ []
noted (give p) cs = cs ++ (give p ∷ [])
noted closes cs = cs ++ (closes ∷ [])

-- a refused call is not noted
abbrev pub note : ℕ → Call → List Call → List Call
note zero c cs = noted c cs
note (suc n) c cs = cs

unfoldable pub step : Call → Progress → Progress
unfolding apply
step c s =
    let r = apply c s.writer s.output in
    record { writer = r.writer; output = r.output; taken = note r.number c s.taken }

unfoldable pub run : List Call → Progress → Progress
unfolding step
run [] s = s
run (c ∷ cs) s = run cs (step c s)
