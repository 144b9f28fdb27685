-- The fields of each body, and of a record, as its view, and a message's kind and view.
use Rattle.format.specs.Format.{Format, Value}
use Rattle.format.specs.View.{View}
use Rattle.protocol.specs.Kind as kind
use Rattle.protocol.specs.Kind.{body_of, channel_level_format}
use Rattle.sdmx.specs.declared.Capa.{Capa}
use Rattle.sdmx.specs.declared.UNam.{UNam}
use Rattle.sdmx.specs.declared.ChBk.{ChBk}
use Rattle.sdmx.specs.declared.ChLs.{ChLs}
use Rattle.sdmx.specs.declared.ChannelLevel.{ChannelLevel}
use Rattle.sdmx.specs.declared.Sxus.{Sxus}
use Rattle.sdmx.specs.declared.Message.{Message}
use Rattle.sdmx.specs.declared.Message.TheVariants as message

-- the body of Capa
abbrev pub capa : Format
capa = body_of kind.Capa

abbrev pub capa_view : Capa → View capa
capa_view x = (x.capabilities.at, x.capabilities.left)

-- the body of UNam
abbrev pub unam : Format
unam = body_of kind.UNam

abbrev pub unam_view : UNam → View unam
unam_view x = (x.universe_index, (x.universe_name.start, x.universe_name.len))

-- the body of ChBk
abbrev pub chbk : Format
chbk = body_of kind.ChBk

abbrev pub chbk_view : ChBk → View chbk
chbk_view x = (x.blind, (x.universe_index, (x.first_channel, (x.channel_levels.start, x.channel_levels.len))))

-- a record of a channel list
abbrev pub channel_level_view : ChannelLevel → View channel_level_format
channel_level_view x = (x.universe_index, (x.channel, x.channel_level))

-- what a record holds
abbrev pub level_value : ChannelLevel → Value channel_level_format
level_value l = (l.universe_index, (l.channel, l.channel_level))

-- the body of ChLs
abbrev pub chls : Format
chls = body_of kind.ChLs

abbrev pub chls_view : ChLs → View chls
chls_view x = (x.channel_levels.at, x.channel_levels.left)

-- the body of Sxus
abbrev pub sxus : Format
sxus = body_of kind.Sxus

abbrev pub sxus_view : Sxus → View sxus
sxus_view x = (x.universe_index, (x.connection_string.start, x.connection_string.len))

abbrev pub message_kind : Message → kind.Kind
message_kind (message.Capa x) = kind.Capa
message_kind (message.UNam x) = kind.UNam
message_kind (message.ChBk x) = kind.ChBk
message_kind (message.ChLs x) = kind.ChLs
message_kind (message.Sxus x) = kind.Sxus

abbrev pub message_view : (m : Message) → View (body_of (message_kind m))
message_view (message.Capa x) = capa_view x
message_view (message.UNam x) = unam_view x
message_view (message.ChBk x) = chbk_view x
message_view (message.ChLs x) = chls_view x
message_view (message.Sxus x) = sxus_view x
