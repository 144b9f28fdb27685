-- Each body's fields as its view, and a message's kind and view.
use Rattle.format.specs.Format.{Format}
use Rattle.format.specs.View.{View}
use Rattle.protocol.specs.Kind as kind
use Rattle.protocol.specs.Kind.{body_of}
use Rattle.pinf.specs.declared.PNam.{PNam}
use Rattle.pinf.specs.declared.PLoc.{PLoc}
use Rattle.pinf.specs.declared.Message.{Message}
use Rattle.pinf.specs.declared.Message.TheVariants as message

-- the body of PNam
abbrev pub pnam : Format
pnam = body_of kind.PNam

abbrev pub pnam_view : PNam → View pnam
pnam_view x = (x.name.start, x.name.len)

-- the body of PLoc
abbrev pub ploc : Format
ploc = body_of kind.PLoc

abbrev pub ploc_view : PLoc → View ploc
ploc_view x = (x.listening_tcp_port, ((x.kind.start, x.kind.len), ((x.name.start, x.name.len), (x.state.start, x.state.len))))

abbrev pub message_kind : Message → kind.Kind
message_kind (message.PNam x) = kind.PNam
message_kind (message.PLoc x) = kind.PLoc

abbrev pub message_view : (m : Message) → View (body_of (message_kind m))
message_view (message.PNam x) = pnam_view x
message_view (message.PLoc x) = ploc_view x
