-- The records of a channel list: one read out of its own bytes, and the two passes over what is left of them.
use Prim.Native.Nat.{ℕ, suc, ◌+◌, ◌*◌, ◌-◌, ◌<◌, ◌≤◌}
use mathlib.Core.Path.{◌≡◌, refl, sym, ap, ◌∙◌}
use mathlib.Core.Bool.{Bool, true, false}
use mathlib.Core.List.{List, [], ◌∷◌}
use native.Mathlib.Omega.{arith}
use borrow.Author.Tests.{ltb-false, lt-ltb, le-ltb, eqb-true, eqb-false, eq-eqb, ne_eqb}
use lib.ListN.{length, take, drop, set}
use lib.Dec.{ltb, eqb}
use Rattle.format.specs.Fault.{any}
use Rattle.format.specs.Walk.{keep}
use Rattle.format.specs.View.{View, seen, view, steps}
use Rattle.format.proofs.Bools.{neither}
use Rattle.format.proofs.Chain.{met}
use Rattle.format.proofs.Look.{steps-none, steps-seen}
use Rattle.format.proofs.Members.{keep-none, keep_some}
use Rattle.format.proofs.Passing.{Own}
use Rattle.protocol.specs.Kind.{channel_level_format}
use Rattle.protocol.proofs.Values.{record-own}
use Rattle.std.specs.Prelude.{Result, Ok, Err, IsOk}
use Rattle.refusal.specs.declared.Refusal.{Refusal}
use Rattle.wire.specs.declared.Cursor.{Cursor}
use Rattle.wire.specs.Says.{says}
use Rattle.sdmx.specs.Says.{channel_level_view}
use Rattle.sdmx.specs.declared.ChannelLevel.{ChannelLevel}
use Rattle.dimming.specs.Levels.{Setting, record_setting, list_settings, is_past, set_all}
use Rattle.dimmer.specs.Settings.{records_set}

-- ---- what is left of n records behind the first i

abbrev pub records_from : (universe : ℕ) (body : List ℕ) (at n i : ℕ) → List Setting
records_from u s at n i = records_set u s (at + i * 4) (n - i)

all_left : (u : ℕ) (s : List ℕ) (at n : ℕ) → records_set u s at n ≡ records_from u s at n 0
all_left u s at n = let m : n - 0 ≡ n = omega arith in let e : at + 0 * 4 ≡ at = omega arith in rw (m, e) refl

module _ (u : ℕ) (s : List ℕ) (at n i : ℕ) where
  module _ (x : ChannelLevel) (v : view channel_level_format s (at + i * 4) ≡ seen (channel_level_view x) (at + i * 4 + 4)) (h : i < n) where
    first : steps channel_level_format (n - i) s (at + i * 4) (n - i)
        ≡ channel_level_view x ∷ steps channel_level_format (n - (i + 1)) s (at + (i + 1) * 4) (n - (i + 1))
    first =
        let m : n - i ≡ suc (n - (i + 1)) = omega arith in
        let e : at + (i + 1) * 4 ≡ at + i * 4 + 4 = omega arith in
        rw (m, e) (steps-seen channel_level_format s (at + i * 4) (n - (i + 1)) v)

    passed : (x.universe_index ≡ u → ⊥) → records_from u s at n i ≡ records_from u s at n (i + 1)
    passed e = ap (list_settings u) first
        ∙ keep-none (record_setting u) (channel_level_view x) (steps channel_level_format (n - (i + 1)) s (at + (i + 1) * 4) (n - (i + 1)))
        (rw (ne_eqb x.universe_index u e) refl)

    set_first : x.universe_index ≡ u → records_from u s at n i ≡ (x.channel, x.channel_level) ∷ records_from u s at n (i + 1)
    set_first e = ap (list_settings u) first
        ∙ keep_some (record_setting u) (channel_level_view x) (steps channel_level_format (n - (i + 1)) s (at + (i + 1) * 4) (n - (i + 1)))
        (rw (eq-eqb x.universe_index u e) refl)

  -- where none is left, nothing is set
  ended : n ≤ i → records_from u s at n i ≡ []
  unfolding keep
  ended h = let e : n - i ≡ 0 = omega arith in rw e (ap (list_settings u) (steps-none channel_level_format s (at + i * 4) 0))

-- ---- one record, read out of its own bytes

module _ (s : List ℕ) (at : ℕ) (h : at + 4 ≤ length s) (r : Result (ChannelLevel × Cursor) Refusal)
    (t : says channel_level_view r ≡ view channel_level_format (take (at + 4 - at) (drop at s)) 0) where
  own : Own channel_level_format s at
  own = record-own s at h

  reads : says channel_level_view r ≡ seen own.fields 4
  reads = let n : at + 4 - at ≡ 4 = omega arith in rw n at t ∙ own.alone

  pub record-reads : IsOk r
  record-reads = go r reads
    where
      go : (r : Result (ChannelLevel × Cursor) Refusal) → says channel_level_view r ≡ seen own.fields 4 → IsOk r
      go (Ok x) q = refl
      go (Err e) q = cc

  pub record-there : (x : ChannelLevel × Cursor) → r ≡ Ok x → view channel_level_format s at ≡ seen (channel_level_view x.0) (at + 4)
  record-there x i =
      let e : own.fields ≡ channel_level_view x.0 = fields-of (met (says channel_level_view) reads i) in
      own.whole ∙ ap (λ (v : View channel_level_format). seen v (at + 4)) e
    where
      fields-of : {v w : View channel_level_format} {d e : ℕ} → seen v d ≡ seen w e → v ≡ w
      fields-of q = cc

-- ---- the first pass: whether a channel past 511 is named goes by what is left

pub record Looking (u : ℕ) (s : List ℕ) (at n i : ℕ) : Type 0 where
  pub within : at + n * 4 ≤ length s
  pub same : any is_past (records_set u s at n) ≡ any is_past (records_from u s at n i)

pub looking-none : {u : ℕ} {s : List ℕ} {at n : ℕ} → at + n * 4 ≤ length s → Looking u s at n 0
looking-none {u} {s} {at} {n} h = record { within = h; same = ap (any is_past) (all_left u s at n) }

module _ (u : ℕ) (s : List ℕ) (at n i : ℕ) (l : Looking u s at n i) where
  pub looking-end : n ≤ i → false ≡ any is_past (records_set u s at n)
  unfolding any
  looking-end h = sym (l.same ∙ ap (any is_past) (ended u s at n i h))

  module _ (h : i < n) (x : ChannelLevel) (v : view channel_level_format s (at + i * 4) ≡ seen (channel_level_view x) (at + i * 4 + 4)) where
    pub looking-other : (x.universe_index ≡ u → ⊥) → Looking u s at n (i + 1)
    looking-other e = record { within = l.within; same = l.same ∙ ap (any is_past) (passed u s at n i x v h e) }

    fits : x.channel < 512 → (b : Bool) → eqb x.universe_index u ≡ b → any is_past (records_from u s at n i) ≡ any is_past (records_from u s at n (i + 1))
    unfolding any
    fits k true e = rw (set_first u s at n i x v h (eqb-true x.universe_index u e), le-ltb 511 x.channel (omega arith)) refl
    fits k false e = ap (any is_past) (passed u s at n i x v h (eqb-false x.universe_index u e))

    pub looking-fits : x.channel < 512 → Looking u s at n (i + 1)
    looking-fits k = record { within = l.within; same = l.same ∙ fits k (eqb x.universe_index u) refl }

    pub looking-past : x.universe_index ≡ u → 512 ≤ x.channel → true ≡ any is_past (records_set u s at n)
    unfolding any
    looking-past e k = sym (l.same ∙ rw (set_first u s at n i x v h e, lt-ltb 511 x.channel (omega arith)) refl)

-- ---- the second: no channel past 511 is left, and the levels in the end go by what is left and the levels as they are

pub record Setting-on (u : ℕ) (s : List ℕ) (at n : ℕ) (before : List ℕ) (i : ℕ) (after : List ℕ) : Type 0 where
  pub within : at + n * 4 ≤ length s
  pub clear : any is_past (records_from u s at n i) ≡ false
  pub same : set_all (records_set u s at n) before ≡ set_all (records_from u s at n i) after

pub setting-none : {u : ℕ} {s : List ℕ} {at n : ℕ} {before : List ℕ} → (at + n * 4 ≤ length s) × (any is_past (records_set u s at n) ≡ false)
    → Setting-on u s at n before 0 before
setting-none {u} {s} {at} {n} {before} (h, c) =
    let e = all_left u s at n in
    record { within = h; clear = rw e at c; same = ap (λ (xs : List Setting). set_all xs before) e }

module _ (u : ℕ) (s : List ℕ) (at n : ℕ) (before : List ℕ) (i : ℕ) (after : List ℕ) (l : Setting-on u s at n before i after) where
  pub setting-end : n ≤ i → after ≡ set_all (records_set u s at n) before
  unfolding set_all
  setting-end h = sym (l.same ∙ ap (λ (xs : List Setting). set_all xs after) (ended u s at n i h))

  module _ (h : i < n) (x : ChannelLevel) (v : view channel_level_format s (at + i * 4) ≡ seen (channel_level_view x) (at + i * 4 + 4)) where
    pub setting-pass : (x.universe_index ≡ u → ⊥) → Setting-on u s at n before (i + 1) after
    setting-pass e =
        let p = passed u s at n i x v h e in
        record {
          within = l.within;
          clear = rw p at l.clear;
          same = l.same ∙ ap (λ (xs : List Setting). set_all xs after) p;
        }

    module _ (e : x.universe_index ≡ u) where
      neither-past : (ltb 511 x.channel ≡ false) × (any is_past (records_from u s at n (i + 1)) ≡ false)
      unfolding any
      neither-past = neither (ltb 511 x.channel) (any is_past (records_from u s at n (i + 1))) (rw (set_first u s at n i x v h e) at l.clear)

      pub setting-there : x.channel < 512
      setting-there = let k = ltb-false 511 x.channel neither-past.0 in omega arith

      pub setting-more : Setting-on u s at n before (i + 1) (set after x.channel x.channel_level)
      unfolding set_all
      setting-more = record {
        within = l.within;
        clear = neither-past.1;
        same = l.same ∙ ap (λ (xs : List Setting). set_all xs after) (set_first u s at n i x v h e);
      }

pub ruleset records = (
  record-reads,
  record-there,
  looking-none,
  looking-end,
  looking-fits,
  looking-other,
  looking-past,
  setting-none,
  setting-end,
  setting-pass,
  setting-there,
  setting-more,
)
