-- The offsets of unsupported packets rise, and are exactly theirs.
use Prim.Native.Nat.{ℕ}
use mathlib.Core.Path.{◌≡◌, refl, sym, ap, ◌∙◌}
use mathlib.Core.Bool.{Bool, true, false, not, ◌&&◌, true≢false, false≢true}
use mathlib.Core.Logic.{inl, inr}
use mathlib.Core.List.{List}
use mathlib.Core.Option.{none, some}
use borrow.Author.Tests.{not-true}
use Rattle.format.specs.Format.{pick}
use Rattle.format.specs.Refusals.{is_one_of}
use Rattle.format.specs.View.{View}
use Rattle.format.proofs.Bools.{both, either}
use Rattle.format.proofs.Members.{one_of, in-one-of, kept_of, keeps}
use Rattle.protocol.specs.Kind.{Kind, ChLs, Sxus, same_kind}
use Rattle.protocol.specs.Step.{Content, message, unknown, fragment, refusal, Report, walk}
use Rattle.protocol.proofs.Every.{same_kind_lem}
use Rattle.stream.proofs.Numbers.{ends}
use Rattle.supporting.specs.Offsets.{is_message_of, offset_of, offsets_of, end_number, stop_of, unsupported}
use Rattle.supporting.specs.Claims as claims
use Rattle.supporting.specs.Claims.{Absent, UnsupportedKind, channel_lists, external_sources, MessageOf, message_of}
use Rattle.supporting.proofs.Offsets.{rises, packets-rise}

-- ---- kinds

module _ (capabilities : List ℕ) where
  absent : (n : ℕ) → not (is_one_of capabilities n) ≡ true → Absent n capabilities
  absent n h i = true≢false (sym (in-one-of capabilities n i) ∙ not-true (is_one_of capabilities n) h)

  not_there : (n : ℕ) → Absent n capabilities → is_one_of capabilities n ≡ false
  not_there n h = go (is_one_of capabilities n) refl
    where
      go : (b : Bool) → is_one_of capabilities n ≡ b → b ≡ false
      go true e = absurd (h (one_of capabilities n e))
      go false e = refl

  of-kind : {j k : Kind} → j ≡ k → UnsupportedKind capabilities k → UnsupportedKind capabilities j
  of-kind e u = rw e u

  lacks : (k : Kind) → unsupported capabilities k ≡ true → UnsupportedKind capabilities k
  lacks k h =
      elim (either (same_kind k ChLs && not (is_one_of capabilities 1)) (same_kind k Sxus && not (is_one_of capabilities 3)) h) [
        | inl a ↦ let b = both (same_kind k ChLs) (not (is_one_of capabilities 1)) a in of-kind (same_kind_lem k ChLs b.0) (channel_lists (absent 1 b.1))
        | inr a ↦ let b = both (same_kind k Sxus) (not (is_one_of capabilities 3)) a in of-kind (same_kind_lem k Sxus b.0) (external_sources (absent 3 b.1))
      ]

  lacked : {k : Kind} → UnsupportedKind capabilities k → unsupported capabilities k ≡ true
  lacked (channel_lists a) = rw (not_there 1 a) refl
  lacked (external_sources a) = rw (not_there 3 a) refl

pub unsupported-kinds : claims.UnsupportedKinds
unsupported-kinds capabilities k = (lacks capabilities k, lacked capabilities)

-- ---- reports

-- a message of a kind that passes a test
record Passes (test : Kind → Bool) (c : Content View) : Type 0 where
  pub kind : Kind
  pub is-message : MessageOf kind c
  pub passes : test kind ≡ true

passing : (test : Kind → Bool) (c : Content View) → is_message_of test c ≡ true → Passes test c
passing test (message k start hint v added) h = record { kind = k; is-message = message_of; passes = h }
passing test (unknown c t) h = absurd (false≢true h)
passing test (fragment p n) h = absurd (false≢true h)
passing test (refusal n) h = absurd (false≢true h)

passed : (test : Kind → Bool) {k : Kind} {c : Content View} → MessageOf k c → test k ≡ true → is_message_of test c ≡ true
passed test message_of h = h

offset-cases : (test : Kind → Bool) (r : Report View) (o : ℕ) → offset_of test r ≡ some o → (is_message_of test r.content ≡ true) × (r.offset ≡ o)
offset-cases test r o h = go (is_message_of test r.content) h
  where
    go : (b : Bool) → pick b (some r.offset) none ≡ some o → (b ≡ true) × (r.offset ≡ o)
    go true e = (refl, cc)
    go false e = (cc, cc)

-- ---- every list of capabilities and every stream

pub unsupported-exact : claims.UnsupportedExact
unfolding offsets_of stop_of
unsupported-exact capabilities s =
    let test = unsupported capabilities in
    let walked = ends s in
    record {
      rise = rises test s;
      no_others = λ o i.
          let w = kept_of (offset_of test) (walk s).0 o i in
          let d = offset-cases test w.element o w.gives in
          let p = passing test w.element.content d.0 in
          record {
            report = w.element;
            reported = w.among;
            stands = d.1;
            kind = p.kind;
            is-message = p.is-message;
            lacks = lacks capabilities p.kind p.passes;
          };
      each = λ o p.
          keeps (offset_of test) (walk s).0 p.reported
          (rw (passed test p.is-message (lacked capabilities p.lacks), p.stands) refl);
      apart = packets-rise s;
      end = walked.offset;
      stops = rw walked.ends refl;
      whole = λ z. walked.whole (sym (ap end_number walked.ends) ∙ z);
    }
