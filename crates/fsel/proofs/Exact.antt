-- A view determines what is viewed: nothing is lost.
use Rattle.std.proofs.Common.{◌≡◌, refl}
use Rattle.format.specs.View.{View}
use Rattle.protocol.specs.Kind as kind
use Rattle.protocol.specs.Kind.{body_of}
use Rattle.protocol.proofs.Bodies.{if_kind, as_kind}
use Rattle.fsel.specs.Says.{sele, dese, sele_view, dese_view, message_kind, message_view}
use Rattle.fsel.specs.declared.Sele.{Sele}
use Rattle.fsel.specs.declared.DeSe.{DeSe}
use Rattle.fsel.specs.declared.Message.{Message}
use Rattle.fsel.specs.declared.Message.TheVariants as message

abbrev sele_of : View sele → Sele
sele_of (a, (b, (d, d'))) = record { complete = a; reserved = b; fixture_identifiers = record { at = d; left = d'; of = record {} } }

pub sele_view-exact : (x : Sele) → x ≡ sele_of (sele_view x)
sele_view-exact x = refl

abbrev dese_of : View dese → DeSe
dese_of (a, a') = record { fixture_identifiers = record { at = a; left = a'; of = record {} } }

pub dese_view-exact : (x : DeSe) → x ≡ dese_of (dese_view x)
dese_view-exact x = refl

-- ---- messages, a row for each kind

abbrev pub message_of : (k : kind.Kind) → View (body_of k) → Message
message_of k v =
    if_kind kind.Sele (λ x. message.Sele (sele_of x))
    (as_kind kind.DeSe (λ x. message.DeSe (dese_of x))) k v

pub message_view-exact : (m : Message) → m ≡ message_of (message_kind m) (message_view m)
message_view-exact (message.Sele x) = refl
message_view-exact (message.DeSe x) = refl
