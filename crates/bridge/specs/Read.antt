-- What the readers of bodies answer: each field of the view with the bytes taken, or the number of the refusal and nothing else.
use Rattle.std.specs.Prelude.{ℕ}
use Rattle.format.specs.View.{View, Seen, seen, missed}
use Rattle.protocol.specs.Layer.{header}
use Rattle.pinf.specs.Says.{ploc}
use Rattle.finf.specs.Says.{fram}
use Rattle.fsel.specs.Says.{sele}
use Rattle.fptc.specs.Says.{ptch}
use Rattle.sdmx.specs.Says.{unam, chbk}
use Rattle.caex.specs.Says.{fixture_list, laser_feed_control, laser_feed_list, laser_feed_frame}
use Rattle.bridge.specs.declared.read.HeaderAnswer.{HeaderAnswer}
use Rattle.bridge.specs.declared.read.StringBody.{StringBody}
use Rattle.bridge.specs.declared.read.ListBody.{ListBody}
use Rattle.bridge.specs.declared.read.UniverseStringBody.{UniverseStringBody}
use Rattle.bridge.specs.declared.read.FixtureListBody.{FixtureListBody}
use Rattle.bridge.specs.declared.read.LaserFeedControlBody.{LaserFeedControlBody}
use Rattle.bridge.specs.declared.read.LaserFeedListBody.{LaserFeedListBody}
use Rattle.bridge.specs.declared.read.LaserFeedFrameBody.{LaserFeedFrameBody}
use Rattle.bridge.specs.declared.read.ChBkBody.{ChBkBody}
use Rattle.bridge.specs.declared.read.PtchBody.{PtchBody}
use Rattle.bridge.specs.declared.read.SeleBody.{SeleBody}
use Rattle.bridge.specs.declared.read.FramBody.{FramBody}
use Rattle.bridge.specs.declared.read.PLocBody.{PLocBody}

abbrev pub flat_header : Seen (View header) → HeaderAnswer
flat_header (seen (a, (b, (c, (d, (e, (f, (g, h))))))) end) =
    record { number = 0; version_major = b; version_minor = c; request_index = d; message_part_count = f; message_part = g; cookie = a; message_size = e; content_type = h; taken = end }
flat_header (missed n) =
    record { number = n; version_major = 0; version_minor = 0; request_index = 0; message_part_count = 0; message_part = 0; cookie = 0; message_size = 0; content_type = 0; taken = 0 }

-- a body that is one string
abbrev pub flat_string : Seen (ℕ × ℕ) → StringBody
flat_string (seen (start, len) end) = record { number = 0; taken = end; start = start; len = len }
flat_string (missed n) = record { number = n; taken = 0; start = 0; len = 0 }

-- a body that is one list
abbrev pub flat_list : Seen (ℕ × ℕ) → ListBody
flat_list (seen (at, count) end) = record { number = 0; left = count; taken = end; at = at }
flat_list (missed n) = record { number = n; left = 0; taken = 0; at = 0 }

-- UNam and Sxus
abbrev pub flat_universe_string : Seen (View unam) → UniverseStringBody
flat_universe_string (seen (a, (start, len)) end) = record { number = 0; universe_index = a; taken = end; string_start = start; string_len = len }
flat_universe_string (missed n) = record { number = n; universe_index = 0; taken = 0; string_start = 0; string_len = 0 }

abbrev pub flat_fixture_list : Seen (View fixture_list) → FixtureListBody
flat_fixture_list (seen (a, (at, count)) end) = record { number = 0; message_type = a; fixtures_left = count; taken = end; fixtures_at = at }
flat_fixture_list (missed n) = record { number = n; message_type = 0; fixtures_left = 0; taken = 0; fixtures_at = 0 }

abbrev pub flat_laser_feed_control : Seen (View laser_feed_control) → LaserFeedControlBody
flat_laser_feed_control (seen (a, b) end) = record { number = 0; feed_index = a; frame_rate = b; taken = end }
flat_laser_feed_control (missed n) = record { number = n; feed_index = 0; frame_rate = 0; taken = 0 }

abbrev pub flat_laser_feed_list : Seen (View laser_feed_list) → LaserFeedListBody
flat_laser_feed_list (seen (a, (at, count)) end) =
    record { number = 0; feed_names_left = count; source_key = a; taken = end; feed_names_at = at }
flat_laser_feed_list (missed n) = record { number = n; feed_names_left = 0; source_key = 0; taken = 0; feed_names_at = 0 }

abbrev pub flat_laser_feed_frame : Seen (View laser_feed_frame) → LaserFeedFrameBody
flat_laser_feed_frame (seen (a, (b, (c, (at, count)))) end) =
    record { number = 0; feed_index = b; points_left = count; source_key = a; frame_sequence = c; taken = end; points_at = at }
flat_laser_feed_frame (missed n) =
    record { number = n; feed_index = 0; points_left = 0; source_key = 0; frame_sequence = 0; taken = 0; points_at = 0 }

abbrev pub flat_chbk : Seen (View chbk) → ChBkBody
flat_chbk (seen (a, (b, (c, (start, len)))) end) =
    record { number = 0; blind = a; universe_index = b; first_channel = c; taken = end; channel_levels_start = start; channel_levels_len = len }
flat_chbk (missed n) =
    record { number = n; blind = 0; universe_index = 0; first_channel = 0; taken = 0; channel_levels_start = 0; channel_levels_len = 0 }

abbrev pub flat_ptch : Seen (View ptch) → PtchBody
flat_ptch (seen (a, (b, (c, (d, (e, ((start, len), (start', len'))))))) end) =
    record { number = 0; universe = b; reserved = c; fixture_identifier = a; channel = d; channel_count = e; taken = end; fixture_make_start = start; fixture_make_len = len; fixture_name_start = start'; fixture_name_len = len' }
flat_ptch (missed n) =
    record { number = n; universe = 0; reserved = 0; fixture_identifier = 0; channel = 0; channel_count = 0; taken = 0; fixture_make_start = 0; fixture_make_len = 0; fixture_name_start = 0; fixture_name_len = 0 }

abbrev pub flat_sele : Seen (View sele) → SeleBody
flat_sele (seen (a, (b, (at, count))) end) =
    record { number = 0; complete = a; reserved = b; fixture_identifiers_left = count; taken = end; fixture_identifiers_at = at }
flat_sele (missed n) = record { number = n; complete = 0; reserved = 0; fixture_identifiers_left = 0; taken = 0; fixture_identifiers_at = 0 }

abbrev pub flat_fram : Seen (View fram) → FramBody
flat_fram (seen (a, (b, (c, (start, len)))) end) =
    record { number = 0; frame_filter_count = b; frame_gobo_count = c; fixture_identifier = a; taken = end; frame_names_start = start; frame_names_len = len }
flat_fram (missed n) =
    record { number = n; frame_filter_count = 0; frame_gobo_count = 0; fixture_identifier = 0; taken = 0; frame_names_start = 0; frame_names_len = 0 }

abbrev pub flat_ploc : Seen (View ploc) → PLocBody
flat_ploc (seen (a, ((start, len), ((start', len'), (start'', len'')))) end) =
    record { number = 0; listening_tcp_port = a; taken = end; kind_start = start; kind_len = len; name_start = start'; name_len = len'; state_start = start''; state_len = len'' }
flat_ploc (missed n) =
    record { number = n; listening_tcp_port = 0; taken = 0; kind_start = 0; kind_len = 0; name_start = 0; name_len = 0; state_start = 0; state_len = 0 }
