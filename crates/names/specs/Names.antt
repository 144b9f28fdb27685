-- The names under which each kind and its fields are listed: the Rust's, in struct order.
use Rattle.std.specs.Prelude.{ℕ, ◌++◌}
use Prim.Native.String.{String}
use Rattle.format.specs.Format.{Format, number, code, cstring, ucs2, list, ◌&◌}
use Rattle.protocol.specs.Kind as kind
use Rattle.protocol.specs.Kind.{Kind, body_of}
use Rattle.protocol.specs.Kind.{identifier_format, fixture_data_format, fixture_format, channel_level_format, feed_name_format, laser_point_format}
use Rattle.text.specs.Text.{chars}
use Rattle.lines.specs.Lines.{Listed, decimal, bits, type, bytes, units, each, block, digits, ◌and◌}

-- ---- fields by their names

abbrev pub number_of : {w : ℕ} → String → Listed (number w)
number_of name = decimal (chars name)

abbrev pub float_of : String → Listed (number 4)
float_of name = bits (chars name)

abbrev pub type_of : {n r : ℕ} → String → Listed (code n r)
type_of name = type (chars name)

abbrev pub cstring_of : {m : ℕ} → String → Listed (cstring m)
cstring_of name = bytes (chars name)

abbrev pub ucs2_of : {m : ℕ} → String → Listed (ucs2 m)
ucs2_of name = units (chars name)

-- a list under the name of its count field; its items have names of their own
abbrev pub list_of : {w : ℕ} {f : Format} → String → Listed f → Listed (list w f)
list_of count item = each (chars count) item

-- a list without a count field
abbrev pub uncounted : {w : ℕ} {f : Format} → String → Listed f → Listed (list w f)
uncounted name item = each (chars name ++ chars ".count") item

-- the same of numbers, and of bytes
abbrev pub numbers_of : {w v : ℕ} → String → Listed (list w (number v))
numbers_of name = uncounted name (number_of name)

abbrev pub block_of : {w : ℕ} → String → Listed (list w (number 1))
block_of name = block (chars name ++ chars ".count") (chars name)

-- ---- records

abbrev pub identifier : Listed identifier_format
identifier = type_of "identifier_type" and digits (chars "data_size") (chars "data")

abbrev pub floats : Listed (number 4 & number 4 & number 4 & number 4 & number 4 & number 4)
floats = float_of "position" and float_of "position" and float_of "position" and float_of "angles" and float_of "angles" and float_of "angles"

abbrev pub fixture_data : Listed fixture_data_format
fixture_data = number_of "patched" and number_of "universe" and number_of "universe_channel" and ucs2_of "unit" and number_of "channel"
    and ucs2_of "circuit" and ucs2_of "note" and floats

abbrev pub fixture : Listed fixture_format
fixture = number_of "fixture_identifier" and ucs2_of "manufacturer_name" and ucs2_of "fixture_name" and ucs2_of "mode_name"
    and number_of "channel_count" and number_of "is_dimmer" and list_of "identifier_count" identifier and fixture_data

abbrev pub channel_level : Listed channel_level_format
channel_level = number_of "universe_index" and number_of "channel" and number_of "channel_level"

abbrev pub feed_name : Listed feed_name_format
feed_name = ucs2_of "feed_names"

abbrev pub laser_point : Listed laser_point_format
laser_point = number_of "x_low_byte" and number_of "y_low_byte" and number_of "xy_high_nibbles" and number_of "color"

-- ---- kinds

-- a kind's name, and its fields under theirs
record Row (f : Format) : Type 0 where
  name : String
  fields : Listed f

abbrev named : {f : Format} → String → Listed f → Row f
named n l = record { name = n; fields = l }

abbrev rows : (k : Kind) → Row (body_of k)
rows kind.EnterShow = named "EnterShow" (ucs2_of "name")
rows kind.FixtureList = named "FixtureList" (type_of "message_type" and list_of "fixture_count" fixture)
rows kind.FixtureRemove = named "FixtureRemove" (list_of "fixture_count" (number_of "fixture_identifiers"))
rows kind.LaserFeedControl = named "LaserFeedControl" (number_of "feed_index" and number_of "frame_rate")
rows kind.Capa = named "Capa" (numbers_of "capabilities")
rows kind.UNam = named "UNam" (number_of "universe_index" and cstring_of "universe_name")
rows kind.ChBk = named "ChBk" (number_of "blind" and number_of "universe_index" and number_of "first_channel" and block_of "channel_levels")
rows kind.ChLs = named "ChLs" (uncounted "channel_levels" channel_level)
rows kind.Sxus = named "Sxus" (number_of "universe_index" and cstring_of "connection_string")
rows kind.Ptch = named "Ptch" (number_of "fixture_identifier" and number_of "universe" and number_of "reserved"
    and number_of "channel" and number_of "channel_count" and cstring_of "fixture_make" and cstring_of "fixture_name")
rows kind.UPtc = named "UPtc" (numbers_of "fixture_identifiers")
rows kind.SPtc = named "SPtc" (numbers_of "fixture_identifiers")
rows kind.Sele = named "Sele" (number_of "complete" and number_of "reserved" and numbers_of "fixture_identifiers")
rows kind.DeSe = named "DeSe" (numbers_of "fixture_identifiers")
rows kind.SFra = named "SFra" (numbers_of "fixture_identifiers")
rows kind.Fram = named "Fram"
    (number_of "fixture_identifier" and number_of "frame_filter_count" and number_of "frame_gobo_count" and cstring_of "frame_names")
rows kind.PNam = named "PNam" (cstring_of "name")
rows kind.PLoc = named "PLoc" (number_of "listening_tcp_port" and cstring_of "kind" and cstring_of "name" and cstring_of "state")
rows kind.LaserFeedList = named "LaserFeedList" (number_of "source_key" and list_of "feed_count" feed_name)
rows kind.LaserFeedFrame = named "LaserFeedFrame"
    (number_of "source_key" and number_of "feed_index" and number_of "frame_sequence" and list_of "point_count" laser_point)

abbrev pub kind_name : Kind → String
kind_name k = (rows k).name

abbrev pub listed : (k : Kind) → Listed (body_of k)
listed k = (rows k).fields
