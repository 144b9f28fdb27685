-- Each body's fields as its view, and a message's kind and view.
use Rattle.format.specs.Format.{Format}
use Rattle.format.specs.View.{View}
use Rattle.protocol.specs.Kind as kind
use Rattle.protocol.specs.Kind.{body_of}
use Rattle.wire.specs.Says.{ucs2_range}
use Rattle.caex.specs.Codes.{message_type_code}
use Rattle.caex.specs.declared.EnterShow.{EnterShow}
use Rattle.caex.specs.declared.FixtureList.{FixtureList}
use Rattle.caex.specs.declared.FixtureRemove.{FixtureRemove}
use Rattle.caex.specs.declared.LaserFeedControl.{LaserFeedControl}
use Rattle.caex.specs.declared.LaserFeedList.{LaserFeedList}
use Rattle.caex.specs.declared.LaserFeedFrame.{LaserFeedFrame}
use Rattle.caex.specs.declared.Message.{Message}
use Rattle.caex.specs.declared.Message.TheVariants as message

abbrev pub enter_show : Format
enter_show = body_of kind.EnterShow

abbrev pub fixture_list : Format
fixture_list = body_of kind.FixtureList

abbrev pub fixture_remove : Format
fixture_remove = body_of kind.FixtureRemove

abbrev pub laser_feed_control : Format
laser_feed_control = body_of kind.LaserFeedControl

abbrev pub laser_feed_list : Format
laser_feed_list = body_of kind.LaserFeedList

abbrev pub laser_feed_frame : Format
laser_feed_frame = body_of kind.LaserFeedFrame

abbrev pub enter_show_view : EnterShow → View enter_show
enter_show_view x = ucs2_range x.name

abbrev pub fixture_list_view : FixtureList → View fixture_list
fixture_list_view x = (message_type_code x.message_type, (x.fixtures.at, x.fixtures.left))

abbrev pub fixture_remove_view : FixtureRemove → View fixture_remove
fixture_remove_view x = (x.fixture_identifiers.at, x.fixture_identifiers.left)

abbrev pub laser_feed_control_view : LaserFeedControl → View laser_feed_control
laser_feed_control_view x = (x.feed_index, x.frame_rate)

abbrev pub laser_feed_list_view : LaserFeedList → View laser_feed_list
laser_feed_list_view x = (x.source_key, (x.feed_names.at, x.feed_names.left))

abbrev pub laser_feed_frame_view : LaserFeedFrame → View laser_feed_frame
laser_feed_frame_view x = (x.source_key, (x.feed_index, (x.frame_sequence, (x.points.at, x.points.left))))

abbrev pub message_kind : Message → kind.Kind
message_kind (message.EnterShow x) = kind.EnterShow
message_kind (message.FixtureList x) = kind.FixtureList
message_kind (message.FixtureRemove x) = kind.FixtureRemove
message_kind (message.LaserFeedControl x) = kind.LaserFeedControl
message_kind (message.LaserFeedList x) = kind.LaserFeedList
message_kind (message.LaserFeedFrame x) = kind.LaserFeedFrame

abbrev pub message_view : (m : Message) → View (body_of (message_kind m))
message_view (message.EnterShow x) = enter_show_view x
message_view (message.FixtureList x) = fixture_list_view x
message_view (message.FixtureRemove x) = fixture_remove_view x
message_view (message.LaserFeedControl x) = laser_feed_control_view x
message_view (message.LaserFeedList x) = laser_feed_list_view x
message_view (message.LaserFeedFrame x) = laser_feed_frame_view x
