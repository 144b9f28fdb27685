-- Each body's fields as its view, and a message's kind and view.
use Rattle.format.specs.Format.{Format}
use Rattle.format.specs.View.{View}
use Rattle.protocol.specs.Kind as kind
use Rattle.protocol.specs.Kind.{body_of}
use Rattle.fptc.specs.declared.Ptch.{Ptch}
use Rattle.fptc.specs.declared.UPtc.{UPtc}
use Rattle.fptc.specs.declared.SPtc.{SPtc}
use Rattle.fptc.specs.declared.Message.{Message}
use Rattle.fptc.specs.declared.Message.TheVariants as message

-- the body of Ptch
abbrev pub ptch : Format
ptch = body_of kind.Ptch

abbrev pub ptch_view : Ptch → View ptch
ptch_view x = (
  x.fixture_identifier,
  (
    x.universe,
    (
      x.reserved,
      (
        x.channel,
        (
          x.channel_count,
          ((x.fixture_make.start, x.fixture_make.len), (x.fixture_name.start, x.fixture_name.len)),
        ),
      ),
    ),
  ),
)

-- the body of UPtc
abbrev pub uptc : Format
uptc = body_of kind.UPtc

abbrev pub uptc_view : UPtc → View uptc
uptc_view x = (x.fixture_identifiers.at, x.fixture_identifiers.left)

-- the body of SPtc
abbrev pub sptc : Format
sptc = body_of kind.SPtc

abbrev pub sptc_view : SPtc → View sptc
sptc_view x = (x.fixture_identifiers.at, x.fixture_identifiers.left)

abbrev pub message_kind : Message → kind.Kind
message_kind (message.Ptch x) = kind.Ptch
message_kind (message.UPtc x) = kind.UPtc
message_kind (message.SPtc x) = kind.SPtc

abbrev pub message_view : (m : Message) → View (body_of (message_kind m))
message_view (message.Ptch x) = ptch_view x
message_view (message.UPtc x) = uptc_view x
message_view (message.SPtc x) = sptc_view x
