-- A view determines what is viewed, and a code its type: nothing is lost.
use Rattle.std.proofs.Common.{ℕ, [], ◌∷◌, get_or, ◌≡◌, refl}
use Rattle.format.specs.View.{View}
use Rattle.protocol.specs.Kind as kind
use Rattle.protocol.specs.Kind.{body_of, laser_point_format}
use Rattle.protocol.proofs.Bodies.{if_kind, as_kind}
use Rattle.caex.specs.Codes.{message_type_code}
use Rattle.caex.specs.Write.{point_value}
use Rattle.caex.specs.Says.{enter_show, fixture_list, fixture_remove, laser_feed_control, laser_feed_list, laser_feed_frame}
use Rattle.caex.specs.Says.{enter_show_view, fixture_list_view, fixture_remove_view, laser_feed_control_view, laser_feed_list_view, laser_feed_frame_view}
use Rattle.caex.specs.Says.{message_kind, message_view}
use Rattle.caex.specs.declared.EnterShow.{EnterShow}
use Rattle.caex.specs.declared.FixtureList.{FixtureList}
use Rattle.caex.specs.declared.FixtureRemove.{FixtureRemove}
use Rattle.caex.specs.declared.LaserFeedControl.{LaserFeedControl}
use Rattle.caex.specs.declared.LaserFeedList.{LaserFeedList}
use Rattle.caex.specs.declared.LaserFeedFrame.{LaserFeedFrame}
use Rattle.caex.specs.declared.LaserPoint.{LaserPoint}
use Rattle.caex.specs.declared.FixtureListMessageType.{FixtureListMessageType}
use Rattle.caex.specs.declared.Message.{Message}
use Rattle.caex.specs.declared.FixtureListMessageType.TheVariants.{ExistingPatchList, NewFixture, ExchangeFixture}
use Rattle.caex.specs.declared.Message.TheVariants as message

abbrev message_type_of : ℕ → FixtureListMessageType
message_type_of n = get_or (ExistingPatchList ∷ NewFixture ∷ ExchangeFixture ∷ []) n ExchangeFixture

pub message_type_code-exact : (t : FixtureListMessageType) → t ≡ message_type_of (message_type_code t)
message_type_code-exact ExistingPatchList = refl
message_type_code-exact NewFixture = refl
message_type_code-exact ExchangeFixture = refl

abbrev enter_show_of : View enter_show → EnterShow
enter_show_of (a, a') = record { name = record { start = a; len = a' } }

pub enter_show_view-exact : (x : EnterShow) → x ≡ enter_show_of (enter_show_view x)
enter_show_view-exact x = refl

abbrev fixture_list_of : View fixture_list → FixtureList
fixture_list_of (a, (b, b')) = record { message_type = message_type_of a; fixtures = record { at = b; left = b'; of = record {} } }

pub fixture_list_view-exact : (x : FixtureList) → x ≡ fixture_list_of (fixture_list_view x)
fixture_list_view-exact x = rw (← message_type_code-exact x.message_type) refl

abbrev fixture_remove_of : View fixture_remove → FixtureRemove
fixture_remove_of (a, a') = record { fixture_identifiers = record { at = a; left = a'; of = record {} } }

pub fixture_remove_view-exact : (x : FixtureRemove) → x ≡ fixture_remove_of (fixture_remove_view x)
fixture_remove_view-exact x = refl

abbrev laser_feed_control_of : View laser_feed_control → LaserFeedControl
laser_feed_control_of (a, b) = record { feed_index = a; frame_rate = b }

pub laser_feed_control_view-exact : (x : LaserFeedControl) → x ≡ laser_feed_control_of (laser_feed_control_view x)
laser_feed_control_view-exact x = refl

abbrev laser_feed_list_of : View laser_feed_list → LaserFeedList
laser_feed_list_of (a, (b, b')) = record { source_key = a; feed_names = record { at = b; left = b'; of = record {} } }

pub laser_feed_list_view-exact : (x : LaserFeedList) → x ≡ laser_feed_list_of (laser_feed_list_view x)
laser_feed_list_view-exact x = refl

abbrev laser_feed_frame_of : View laser_feed_frame → LaserFeedFrame
laser_feed_frame_of (a, (b, (d, (f, f')))) =
    record { source_key = a; feed_index = b; frame_sequence = d; points = record { at = f; left = f'; of = record {} } }

pub laser_feed_frame_view-exact : (x : LaserFeedFrame) → x ≡ laser_feed_frame_of (laser_feed_frame_view x)
laser_feed_frame_view-exact x = refl

abbrev point_of : View laser_point_format → LaserPoint
point_of (a, (b, (d, f))) = record { x_low_byte = a; y_low_byte = b; xy_high_nibbles = d; color = f }

pub point_value-exact : (x : LaserPoint) → x ≡ point_of (point_value x)
point_value-exact x = refl

-- ---- messages, a row for each kind

abbrev pub message_of : (k : kind.Kind) → View (body_of k) → Message
message_of k v =
    if_kind kind.EnterShow (λ x. message.EnterShow (enter_show_of x))
    (if_kind kind.FixtureList (λ x. message.FixtureList (fixture_list_of x))
    (if_kind kind.FixtureRemove (λ x. message.FixtureRemove (fixture_remove_of x))
    (if_kind kind.LaserFeedControl (λ x. message.LaserFeedControl (laser_feed_control_of x))
    (if_kind kind.LaserFeedList (λ x. message.LaserFeedList (laser_feed_list_of x))
    (as_kind kind.LaserFeedFrame (λ x. message.LaserFeedFrame (laser_feed_frame_of x))))))) k v

pub message_view-exact : (m : Message) → m ≡ message_of (message_kind m) (message_view m)
message_view-exact (message.EnterShow x) = refl
message_view-exact (message.FixtureList x) = rw (← message_type_code-exact x.message_type) refl
message_view-exact (message.FixtureRemove x) = refl
message_view-exact (message.LaserFeedControl x) = refl
message_view-exact (message.LaserFeedList x) = refl
message_view-exact (message.LaserFeedFrame x) = refl
