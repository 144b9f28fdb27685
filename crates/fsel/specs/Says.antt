-- Each body's fields as its view, and a message's kind and view.
use Rattle.format.specs.Format.{Format}
use Rattle.format.specs.View.{View}
use Rattle.protocol.specs.Kind as kind
use Rattle.protocol.specs.Kind.{body_of}
use Rattle.fsel.specs.declared.Sele.{Sele}
use Rattle.fsel.specs.declared.DeSe.{DeSe}
use Rattle.fsel.specs.declared.Message.{Message}
use Rattle.fsel.specs.declared.Message.TheVariants as message

-- the body of Sele
abbrev pub sele : Format
sele = body_of kind.Sele

abbrev pub sele_view : Sele → View sele
sele_view x = (x.complete, (x.reserved, (x.fixture_identifiers.at, x.fixture_identifiers.left)))

-- the body of DeSe
abbrev pub dese : Format
dese = body_of kind.DeSe

abbrev pub dese_view : DeSe → View dese
dese_view x = (x.fixture_identifiers.at, x.fixture_identifiers.left)

abbrev pub message_kind : Message → kind.Kind
message_kind (message.Sele x) = kind.Sele
message_kind (message.DeSe x) = kind.DeSe

abbrev pub message_view : (m : Message) → View (body_of (message_kind m))
message_view (message.Sele x) = sele_view x
message_view (message.DeSe x) = dese_view x
