-- The calls of the packet writer, what each gives, and what the types of its parameters promise of it.
use Rattle.std.specs.Prelude.{ℕ, ◌^◌, ◌<◌, Bool, true, false, ◌||◌, List, [], ◌∷◌, ◌++◌, map, length, leb}
use Rattle.format.specs.Format.{Format, number, code, ◌&◌, Value, encode, concat_map}
use Rattle.format.specs.Fault.{Fits, holds_zero, over_limit, too_long}
use Rattle.protocol.specs.Kind.{Kind, body_of}
use Rattle.protocol.specs.Kind.{identifier_format, fixture_head, fixture_data_format, fixture_format, feed_name_format, laser_point_format}
use Rattle.protocol.specs.Kind as kind
use Rattle.protocol.specs.Message.{Message, headers_of}

-- what one call gives between open and close: a flat body at once; or a list's head with its count, then its items one by one,
-- a fixture as its head with the count of its identifiers, the identifiers one by one, its data
pub data Part : Type 0 where
  body : (k : Kind) → Value (body_of k) → Part
  laser_feed_list : (source_key count : ℕ) → Part
  feed_name : List ℕ → Part
  laser_feed_frame : (source_key feed_index frame_sequence count : ℕ) → Part
  laser_point : Value laser_point_format → Part
  fixture_list : (message_type count : ℕ) → Part
  fixture : Value fixture_head → (count : ℕ) → Part
  identifier : Value identifier_format → Part
  fixture_data : Value fixture_data_format → Part

pub data Call : Type 0 where
  opens : Kind → (request hint : ℕ) → Call
  give : Part → Call
  closes : Call

-- ---- what a call gives

-- a value of a format; in a head, the count of the items to come behind it, in a field of so many bytes
pub data Layout : Type 0 where
  plain : (f : Format) → Value f → Layout
  counted : (f : Format) → Value f → (width count : ℕ) → Layout

abbrev pub layout_of : Part → Layout
layout_of (body k v) = plain (body_of k) v
layout_of (laser_feed_list key count) = counted (number 4) key 1 count
layout_of (feed_name name) = plain feed_name_format name
layout_of (laser_feed_frame key feed sequence count) = counted (number 4 & number 1 & number 4) (key, (feed, sequence)) 2 count
layout_of (laser_point v) = plain laser_point_format v
layout_of (fixture_list type count) = counted (code 3 9) type 2 count
layout_of (fixture v count) = counted fixture_head v 1 count
layout_of (identifier v) = plain identifier_format v
layout_of (fixture_data v) = plain fixture_data_format v

-- its bytes
abbrev pub layout_bytes : Layout → List ℕ
layout_bytes (plain f v) = encode f v
layout_bytes (counted f v w n) = encode f v ++ encode (number w) n

-- its numbers, elements and codes fit the types of the parameters
abbrev pub layout_fits : Layout → Type 0
layout_fits (plain f v) = Fits f v
layout_fits (counted f v w n) = Fits f v

-- a string of it holds a zero
abbrev pub layout_zero : Layout → Bool
layout_zero (plain f v) = holds_zero f v
layout_zero (counted f v w n) = holds_zero f v

-- a string of it is longer than its limit
abbrev pub layout_over : Layout → Bool
layout_over (plain f v) = over_limit f v
layout_over (counted f v w n) = over_limit f v

-- a list of it, or its count, is too long for its field
abbrev pub layout_long : Layout → Bool
layout_long (plain f v) = too_long f v
layout_long (counted f v w n) = too_long f v || leb (256 ^ w) n

abbrev pub part_bytes : Part → List ℕ
part_bytes p = layout_bytes (layout_of p)

-- what the parameters' types promise: numbers within their types, elements of strings bytes or units, codes of the enums; a count is any number
abbrev pub Typed : Call → Type 0
Typed (opens k request hint) = (request < 65536) × (hint < 4294967296)
Typed (give p) = layout_fits (layout_of p)
Typed closes = Unit {0}

-- the bytes at the writer's place: headers with size field 0, or a part; close writes none there
abbrev pub bytes_of : Call → List ℕ
bytes_of (opens k request hint) = headers_of k 0 request hint
bytes_of (give p) = part_bytes p
bytes_of closes = []

-- a string given holds a zero
abbrev pub zero_in : Call → Bool
zero_in (opens k request hint) = false
zero_in (give p) = layout_zero (layout_of p)
zero_in closes = false

-- a string given is longer than its limit
abbrev pub over_limit_in : Call → Bool
over_limit_in (opens k request hint) = false
over_limit_in (give p) = layout_over (layout_of p)
over_limit_in closes = false

-- a list or block given, or a count declared, is too long for its field
abbrev pub too_long_in : Call → Bool
too_long_in (opens k request hint) = false
too_long_in (give p) = layout_long (layout_of p)
too_long_in closes = false

-- ---- the calls that give a message

abbrev pub head_of : Value fixture_format → Value fixture_head
head_of x = (x.0, (x.1.0, (x.1.1.0, (x.1.1.1.0, (x.1.1.1.1.0, x.1.1.1.1.1.0)))))

abbrev pub identifiers_of : Value fixture_format → List (Value identifier_format)
identifiers_of x = x.1.1.1.1.1.1.0

abbrev pub data_of : Value fixture_format → Value fixture_data_format
data_of x = x.1.1.1.1.1.1.1

-- a fixture: head with its count of identifiers, identifiers in order, data
abbrev pub fixture_parts : Value fixture_format → List Part
fixture_parts x = fixture (head_of x) (length (identifiers_of x)) ∷ (map identifier (identifiers_of x) ++ (fixture_data (data_of x) ∷ []))

-- how a kind's body is given: in one call, or a list's head and then its items
pub data Form : Kind → Type 0 where
  flat : {k : Kind} → Form k
  fixtures : Form kind.FixtureList
  names : Form kind.LaserFeedList
  points : Form kind.LaserFeedFrame

-- the form of each kind's body
abbrev pub form : (k : Kind) → Form k
form kind.EnterShow = flat
form kind.FixtureList = fixtures
form kind.FixtureRemove = flat
form kind.LaserFeedControl = flat
form kind.Capa = flat
form kind.UNam = flat
form kind.ChBk = flat
form kind.ChLs = flat
form kind.Sxus = flat
form kind.Ptch = flat
form kind.UPtc = flat
form kind.SPtc = flat
form kind.Sele = flat
form kind.DeSe = flat
form kind.SFra = flat
form kind.Fram = flat
form kind.PNam = flat
form kind.PLoc = flat
form kind.LaserFeedList = names
form kind.LaserFeedFrame = points

-- whether that is in one call
abbrev pub is_flat_form : {k : Kind} → Form k → Bool
is_flat_form flat = true
is_flat_form fixtures = false
is_flat_form names = false
is_flat_form points = false

-- the parts in which a value of a body of such a form is given
abbrev pub parts_in : {k : Kind} → Form k → Value (body_of k) → List Part
parts_in {k} flat v = body k v ∷ []
parts_in fixtures v = fixture_list v.0 (length v.1) ∷ concat_map fixture_parts v.1
parts_in names v = laser_feed_list v.0 (length v.1) ∷ map feed_name v.1
parts_in points v = laser_feed_frame v.0 v.1.0 v.1.1.0 (length v.1.1.1) ∷ map laser_point v.1.1.1

-- the parts in which a value of a kind's body is given
abbrev pub parts_of : (k : Kind) → Value (body_of k) → List Part
parts_of k v = parts_in (form k) v

-- the calls, from open up to but without close, whose values make up a message, items in order
abbrev pub calls_of : Message → List Call
calls_of m = opens m.kind m.request m.hint ∷ map give (parts_of m.kind m.value)
