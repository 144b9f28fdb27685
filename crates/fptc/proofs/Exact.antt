-- A view determines what is viewed: nothing is lost.
use Rattle.std.proofs.Common.{◌≡◌, refl}
use Rattle.format.specs.View.{View}
use Rattle.protocol.specs.Kind as kind
use Rattle.protocol.specs.Kind.{body_of}
use Rattle.protocol.proofs.Bodies.{if_kind, as_kind}
use Rattle.fptc.specs.Says.{ptch, uptc, sptc, ptch_view, uptc_view, sptc_view, message_kind, message_view}
use Rattle.fptc.specs.declared.Ptch.{Ptch}
use Rattle.fptc.specs.declared.UPtc.{UPtc}
use Rattle.fptc.specs.declared.SPtc.{SPtc}
use Rattle.fptc.specs.declared.Message.{Message}
use Rattle.fptc.specs.declared.Message.TheVariants as message

abbrev ptch_of : View ptch → Ptch
ptch_of (a, (b, (d, (f, (g, ((h, h'), (i, i'))))))) = record {
  fixture_identifier = a;
  universe = b;
  reserved = d;
  channel = f;
  channel_count = g;
  fixture_make = record { start = h; len = h' };
  fixture_name = record { start = i; len = i' };
}

pub ptch_view-exact : (x : Ptch) → x ≡ ptch_of (ptch_view x)
ptch_view-exact x = refl

abbrev uptc_of : View uptc → UPtc
uptc_of (a, a') = record { fixture_identifiers = record { at = a; left = a'; of = record {} } }

pub uptc_view-exact : (x : UPtc) → x ≡ uptc_of (uptc_view x)
uptc_view-exact x = refl

abbrev sptc_of : View sptc → SPtc
sptc_of (a, a') = record { fixture_identifiers = record { at = a; left = a'; of = record {} } }

pub sptc_view-exact : (x : SPtc) → x ≡ sptc_of (sptc_view x)
sptc_view-exact x = refl

-- ---- messages, a row for each kind

abbrev pub message_of : (k : kind.Kind) → View (body_of k) → Message
message_of k v =
    if_kind kind.Ptch (λ x. message.Ptch (ptch_of x))
    (if_kind kind.UPtc (λ x. message.UPtc (uptc_of x))
    (as_kind kind.SPtc (λ x. message.SPtc (sptc_of x)))) k v

pub message_view-exact : (m : Message) → m ≡ message_of (message_kind m) (message_view m)
message_view-exact (message.Ptch x) = refl
message_view-exact (message.UPtc x) = refl
message_view-exact (message.SPtc x) = refl
