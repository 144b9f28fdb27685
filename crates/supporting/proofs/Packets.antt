-- Over a list of packets laid end to end, the offsets of unsupported packets are those of its messages of the two kinds.
use Prim.Native.Nat.{ℕ}
use mathlib.Core.Path.{◌≡◌, refl, sym, ap, ◌∙◌}
use mathlib.Core.Bool.{Bool}
use mathlib.Core.List.{List}
use Rattle.format.specs.View.{View}
use Rattle.format.specs.Walk.{keep}
use Rattle.format.proofs.Members.{keep-map}
use Rattle.format.proofs.Walks.{keep-due}
use Rattle.protocol.specs.Kind.{Kind}
use Rattle.protocol.specs.Step as reported
use Rattle.protocol.specs.Step.{Content, Report, look_content, looked, walk}
use Rattle.stream.specs.Packets.{Packet, message, unknown_layer, unknown_kind, fragment, bytes, stream, expected}
use Rattle.stream.proofs.Walked.{walked}
use Rattle.supporting.specs.Offsets.{is_message_of, offset_of, offsets_of, stop_of, unsupported}
use Rattle.supporting.specs.Claims as claims
use Rattle.supporting.specs.Claims.{offset_due}

-- a report's views have no part in its offset
looked-offset : (test : Kind → Bool) (s : List ℕ) (r : Report View) → offset_of test (looked s r) ≡ offset_of test r
unfolding looked
looked-offset test s r = rw (same r.content) refl
  where
    same : (c : Content View) → is_message_of test (look_content s r.size c) ≡ is_message_of test c
    same (reported.message k start hint v added) = refl
    same (reported.unknown c t) = refl
    same (reported.fragment p n) = refl
    same (reported.refusal n) = refl

expected-offset : (capabilities : List ℕ) (at : ℕ) (p : Packet) → offset_of (unsupported capabilities) (expected at p) ≡ offset_due capabilities at p
expected-offset capabilities at (message m accepted added) = refl
expected-offset capabilities at (unknown_layer h s) = refl
expected-offset capabilities at (unknown_kind h l type s) = refl
expected-offset capabilities at (fragment h s) = refl

pub unsupported-packets : claims.UnsupportedPackets
unfolding offsets_of stop_of
unsupported-packets capabilities ps hs =
    let test = unsupported capabilities in
    let told = walked ps hs in (
      sym (keep-map (offset_of test) (offset_of test) (looked (stream ps)) (looked-offset test (stream ps)) (walk (stream ps)).0)
          ∙ ap (keep (offset_of test)) told.walked
          ∙ keep-due bytes expected (offset_of test) (offset_due capabilities) (expected-offset capabilities) 0 ps,
      rw told.ended refl,
    )
