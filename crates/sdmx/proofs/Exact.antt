-- A view determines what is viewed: nothing is lost.
use Rattle.std.proofs.Common.{ℕ, ◌≡◌, refl, ap}
use Rattle.std.specs.Prelude.{Result, Ok, Err, Option, Some, None}
use Rattle.format.specs.View.{View, Next, item, done, broken}
use Rattle.protocol.specs.Kind as kind
use Rattle.protocol.specs.Kind.{body_of, channel_level_format}
use Rattle.protocol.proofs.Bodies.{if_kind, as_kind}
use Rattle.refusal.specs.declared.Refusal.{Refusal}
use Rattle.refusal.proofs.Exact.{refusal_of, refusal-exact}
use Rattle.wire.specs.Says.{next_says, number_view}
use Rattle.wire.specs.declared.List.{List}
use Rattle.sdmx.specs.Says.{capa, unam, chbk, chls, sxus, capa_view, unam_view, chbk_view, chls_view, sxus_view, channel_level_view}
use Rattle.sdmx.specs.Says.{message_kind, message_view}
use Rattle.sdmx.specs.declared.Capa.{Capa}
use Rattle.sdmx.specs.declared.UNam.{UNam}
use Rattle.sdmx.specs.declared.ChBk.{ChBk}
use Rattle.sdmx.specs.declared.ChannelLevel.{ChannelLevel}
use Rattle.sdmx.specs.declared.ChLs.{ChLs}
use Rattle.sdmx.specs.declared.Sxus.{Sxus}
use Rattle.sdmx.specs.declared.Message.{Message}
use Rattle.sdmx.specs.declared.Message.TheVariants as message

abbrev capa_of : View capa → Capa
capa_of (a, a') = record { capabilities = record { at = a; left = a'; of = record {} } }

pub capa_view-exact : (x : Capa) → x ≡ capa_of (capa_view x)
capa_view-exact x = refl

abbrev unam_of : View unam → UNam
unam_of (a, (b, b')) = record { universe_index = a; universe_name = record { start = b; len = b' } }

pub unam_view-exact : (x : UNam) → x ≡ unam_of (unam_view x)
unam_view-exact x = refl

abbrev chbk_of : View chbk → ChBk
chbk_of (a, (b, (d, (f, f')))) = record { blind = a; universe_index = b; first_channel = d; channel_levels = record { start = f; len = f' } }

pub chbk_view-exact : (x : ChBk) → x ≡ chbk_of (chbk_view x)
chbk_view-exact x = refl

abbrev chls_of : View chls → ChLs
chls_of (a, a') = record { channel_levels = record { at = a; left = a'; of = record {} } }

pub chls_view-exact : (x : ChLs) → x ≡ chls_of (chls_view x)
chls_view-exact x = refl

abbrev sxus_of : View sxus → Sxus
sxus_of (a, (b, b')) = record { universe_index = a; connection_string = record { start = b; len = b' } }

pub sxus_view-exact : (x : Sxus) → x ≡ sxus_of (sxus_view x)
sxus_view-exact x = refl

-- a record of a channel list
abbrev channel_level_of : View channel_level_format → ChannelLevel
channel_level_of (a, (b, d)) = record { universe_index = a; channel = b; channel_level = d }

pub channel_level_view-exact : (x : ChannelLevel) → x ≡ channel_level_of (channel_level_view x)
channel_level_view-exact x = refl

-- a step over the records
abbrev channel_levels_next_of : Next (View channel_level_format) → Result (Option (ChannelLevel × List ChannelLevel ℕ)) Refusal
channel_levels_next_of (item v e n) = Ok (Some (channel_level_of v, record { at = e; left = n; of = record {} }))
channel_levels_next_of done = Ok None
channel_levels_next_of (broken n) = Err (refusal_of n)

pub channel_levels_next-exact : (r : Result (Option (ChannelLevel × List ChannelLevel ℕ)) Refusal)
    → r ≡ channel_levels_next_of (next_says channel_level_view number_view r)
channel_levels_next-exact (Ok (Some x)) = refl
channel_levels_next-exact (Ok None) = refl
channel_levels_next-exact (Err e) = ap (λ (y : Refusal). Err y) (refusal-exact e)

-- ---- messages, a row for each kind

abbrev pub message_of : (k : kind.Kind) → View (body_of k) → Message
message_of k v =
    if_kind kind.Capa (λ x. message.Capa (capa_of x))
    (if_kind kind.UNam (λ x. message.UNam (unam_of x))
    (if_kind kind.ChBk (λ x. message.ChBk (chbk_of x))
    (if_kind kind.ChLs (λ x. message.ChLs (chls_of x))
    (as_kind kind.Sxus (λ x. message.Sxus (sxus_of x)))))) k v

pub message_view-exact : (m : Message) → m ≡ message_of (message_kind m) (message_view m)
message_view-exact (message.Capa x) = refl
message_view-exact (message.UNam x) = refl
message_view-exact (message.ChBk x) = refl
message_view-exact (message.ChLs x) = refl
message_view-exact (message.Sxus x) = refl
