-- A view determines what is viewed: nothing is lost.
use Rattle.std.proofs.Common.{◌≡◌, refl}
use Rattle.format.specs.View.{View}
use Rattle.protocol.specs.Kind as kind
use Rattle.protocol.specs.Kind.{body_of}
use Rattle.protocol.proofs.Bodies.{if_kind, as_kind}
use Rattle.pinf.specs.Says.{pnam, ploc, pnam_view, ploc_view, message_kind, message_view}
use Rattle.pinf.specs.declared.PNam.{PNam}
use Rattle.pinf.specs.declared.PLoc.{PLoc}
use Rattle.pinf.specs.declared.Message.{Message}
use Rattle.pinf.specs.declared.Message.TheVariants as message

abbrev pnam_of : View pnam → PNam
pnam_of (a, a') = record { name = record { start = a; len = a' } }

pub pnam_view-exact : (x : PNam) → x ≡ pnam_of (pnam_view x)
pnam_view-exact x = refl

abbrev ploc_of : View ploc → PLoc
ploc_of (a, ((b, b'), ((d, d'), (f, f')))) = record {
  listening_tcp_port = a;
  kind = record { start = b; len = b' };
  name = record { start = d; len = d' };
  state = record { start = f; len = f' };
}

pub ploc_view-exact : (x : PLoc) → x ≡ ploc_of (ploc_view x)
ploc_view-exact x = refl

-- ---- messages, a row for each kind

abbrev pub message_of : (k : kind.Kind) → View (body_of k) → Message
message_of k v =
    if_kind kind.PNam (λ x. message.PNam (pnam_of x))
    (as_kind kind.PLoc (λ x. message.PLoc (ploc_of x))) k v

pub message_view-exact : (m : Message) → m ≡ message_of (message_kind m) (message_view m)
message_view-exact (message.PNam x) = refl
message_view-exact (message.PLoc x) = refl
