-- A view determines what is viewed: nothing is lost.
use Rattle.std.proofs.Common.{◌≡◌, refl}
use Rattle.format.specs.View.{View}
use Rattle.protocol.specs.Kind as kind
use Rattle.protocol.specs.Kind.{body_of}
use Rattle.protocol.proofs.Bodies.{if_kind, as_kind}
use Rattle.finf.specs.Says.{sfra, fram, sfra_view, fram_view, message_kind, message_view}
use Rattle.finf.specs.declared.SFra.{SFra}
use Rattle.finf.specs.declared.Fram.{Fram}
use Rattle.finf.specs.declared.Message.{Message}
use Rattle.finf.specs.declared.Message.TheVariants as message

abbrev sfra_of : View sfra → SFra
sfra_of (a, a') = record { fixture_identifiers = record { at = a; left = a'; of = record {} } }

pub sfra_view-exact : (x : SFra) → x ≡ sfra_of (sfra_view x)
sfra_view-exact x = refl

abbrev fram_of : View fram → Fram
fram_of (a, (b, (d, (f, f')))) = record { fixture_identifier = a; frame_filter_count = b; frame_gobo_count = d; frame_names = record { start = f; len = f' } }

pub fram_view-exact : (x : Fram) → x ≡ fram_of (fram_view x)
fram_view-exact x = refl

-- ---- messages, a row for each kind

abbrev pub message_of : (k : kind.Kind) → View (body_of k) → Message
message_of k v =
    if_kind kind.SFra (λ x. message.SFra (sfra_of x))
    (as_kind kind.Fram (λ x. message.Fram (fram_of x))) k v

pub message_view-exact : (m : Message) → m ≡ message_of (message_kind m) (message_view m)
message_view-exact (message.SFra x) = refl
message_view-exact (message.Fram x) = refl
