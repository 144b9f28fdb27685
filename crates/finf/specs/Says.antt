-- Each body's fields as its view, and a message's kind and view.
use Rattle.format.specs.Format.{Format}
use Rattle.format.specs.View.{View}
use Rattle.protocol.specs.Kind as kind
use Rattle.protocol.specs.Kind.{body_of}
use Rattle.finf.specs.declared.SFra.{SFra}
use Rattle.finf.specs.declared.Fram.{Fram}
use Rattle.finf.specs.declared.Message.{Message}
use Rattle.finf.specs.declared.Message.TheVariants as message

-- the body of SFra
abbrev pub sfra : Format
sfra = body_of kind.SFra

abbrev pub sfra_view : SFra → View sfra
sfra_view x = (x.fixture_identifiers.at, x.fixture_identifiers.left)

-- the body of Fram
abbrev pub fram : Format
fram = body_of kind.Fram

abbrev pub fram_view : Fram → View fram
fram_view x = (x.fixture_identifier, (x.frame_filter_count, (x.frame_gobo_count, (x.frame_names.start, x.frame_names.len))))

abbrev pub message_kind : Message → kind.Kind
message_kind (message.SFra x) = kind.SFra
message_kind (message.Fram x) = kind.Fram

abbrev pub message_view : (m : Message) → View (body_of (message_kind m))
message_view (message.SFra x) = sfra_view x
message_view (message.Fram x) = fram_view x
