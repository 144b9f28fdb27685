-- The walk over a stream: what was found so far, and what the rest of it gives.
use Prim.Native.Nat.{ℕ, ◌+◌, ◌-◌, ◌≤◌, ◌<◌}
use mathlib.Core.Path.{◌≡◌, refl, sym, ap, ◌∙◌}
use mathlib.Core.Bool.{Bool, true, false}
use mathlib.Core.List.{List}
use native.Mathlib.Nat.{zero-add, add-zero}
use native.Mathlib.Numerals.{add-one}
use native.Mathlib.Omega.{arith}
use borrow.Author.Rules as kit
use lib.ListN.{length, set}
use lib.Seq.{sets, length-sets}
use Rattle.format.specs.Walk.{stop, report}
use Rattle.protocol.specs.Kind.{Kind}
use Rattle.protocol.specs.Step.{step_at}
use Rattle.protocol.proofs.Steps.{moved}
use Rattle.citp.specs.Says.{report_says, packet_says}
use Rattle.citp.specs.declared.Cursor.{Cursor}
use Rattle.citp.specs.declared.PacketReport.{PacketReport}
use Rattle.supporting.specs.Offsets.{is_message_of, offsets_of, stop_of}
use Rattle.supporting.proofs.Offsets.{offsets_from, offsets-start, offsets-stop, offsets-pass, offsets-take, stop_from, stop-start, stop-report, stop-stop}

-- n offsets stand before `at`: putting all offsets into the list as it was gives the same list as putting those from `at` on into the list
-- as it is, from place n on
pub record Walking (test : Kind → Bool) (s : List ℕ) (at n : ℕ) (before after : List ℕ) : Type 0 where
  pub few : n ≤ at
  pub within : at ≤ length s
  pub counts : length (offsets_of test s) ≡ n + length (offsets_from test s at)
  pub holds : sets before 0 (offsets_of test s) ≡ sets after n (offsets_from test s at)
  pub stops : stop_of s ≡ stop_from s at

pub walking_start : {test : Kind → Bool} {s : List ℕ} {at : ℕ} {out : List ℕ} → at ≡ 0 → Walking test s at 0 out out
walking_start {test} {s} e = rw e (record {
  few = omega arith;
  within = omega arith;
  counts = ap length (offsets-start test s) ∙ sym (zero-add (length (offsets_from test s 0)));
  holds = ap (sets _ 0) (offsets-start test s);
  stops = stop-start s;
})

pub walking-length : {test : Kind → Bool} {s : List ℕ} {at n : ℕ} {before after : List ℕ} → Walking test s at n before after
    → length after ≡ length before
walking-length {test} {s} {at} {n} {before} {after} w =
    sym (length-sets after n (offsets_from test s at)) ∙ sym (ap length w.holds) ∙ length-sets before 0 (offsets_of test s)

module _ (test : Kind → Bool) (s : List ℕ) (c : Cursor) where
  module _ (y : PacketReport) (d : Cursor) (i : report (packet_says y) d.at ≡ step_at s c.at) where
    pub walking-less : length s - d.at < length s - c.at
    walking-less = let m = moved s c.at (sym i) in omega (arith, m.on, m.within)

    module _ (n : ℕ) (before after : List ℕ) (w : Walking test s c.at n before after) (b : Bool) (h : b ≡ is_message_of test (report_says y.report)) where
      pub walking-pass : b ≡ false → Walking test s d.at n before after
      walking-pass f =
          let m = moved s c.at (sym i) in
          let e = offsets-pass test s c.at (sym i) (sym h ∙ f) in
          record {
            few = omega (arith, w.few, m.on);
            within = m.within;
            counts = w.counts ∙ rw e refl;
            holds = w.holds ∙ rw e refl;
            stops = w.stops ∙ stop-report s c.at (sym i);
          }

      pub walking-take : b ≡ true → (stored : List ℕ) → stored ≡ set after n y.offset → Walking test s d.at (n + 1) before stored
      walking-take f stored g =
          let m = moved s c.at (sym i) in
          let e = offsets-take test s c.at (sym i) (sym h ∙ f) in
          record {
            few = omega (arith, w.few, m.on);
            within = m.within;
            counts = let k = w.counts ∙ ap (λ (xs : List ℕ). n + length xs) e in omega (arith, k);
            holds = w.holds ∙ rw (e, g, add-one) refl;
            stops = w.stops ∙ stop-report s c.at (sym i);
          }

  module _ (number : ℕ) (i : stop number c.at ≡ step_at s c.at) (n : ℕ) (before after : List ℕ) (w : Walking test s c.at n before after) where
    pub walking-count : n ≡ length (offsets_of test s)
    walking-count = sym (w.counts ∙ rw (offsets-stop test s c.at (sym i), add-zero) refl)

    pub walking-end : number ≡ stop_of s
    walking-end = sym (w.stops ∙ stop-stop s c.at (sym i))

    pub walking-all : after ≡ sets before 0 (offsets_of test s)
    walking-all = sym (w.holds ∙ rw (offsets-stop test s c.at (sym i)) refl)

pub ruleset walks = (kit.rules, walking_start, walking-length, walking-less, walking-count, walking-end, walking-all)
