-- The theorem of the levels: after every list of messages each channel has the last level that a message which was taken gave it, or 0. And of
-- a list's records the last one.
use Prim.Native.Nat.{ℕ, ◌<◌}
use mathlib.Core.Path.{◌≡◌, refl, sym, ap, ◌∙◌, subst}
use mathlib.Core.Bool.{Bool, true, false}
use mathlib.Core.List.{List, [], ◌∷◌, ◌++◌}
use borrow.Author.Tests.{eqb-true, eqb-false, eq-eqb}
use lib.ListN.{length, get_or, set, length-set, length-replicate, get_or-replicate}
use lib.Seq.{lt-length-set, get_or-set_same, get_or-set_other}
use lib.Dec.{eqb}
use Rattle.format.specs.Format.{Value, concat_map, All}
use Rattle.format.specs.Walk.{keep}
use Rattle.format.proofs.Members.{keep_some, keep_append}
use Rattle.protocol.specs.Kind.{channel_level_format}
use Rattle.dimming.specs.Levels.{Message, chls, Setting, record_setting, list_settings, change, settings_of, made, set_all, initial}
use Rattle.dimming.specs.Claims as claims
use Rattle.dimming.specs.Claims.{feed, given, Elsewhere, Last, never, last}

set-length : (xs : List Setting) (levels : List ℕ) → length (set_all xs levels) ≡ length levels
unfolding set_all
set-length [] levels = refl
set-length (x ∷ xs) levels = set-length xs (set levels x.0 x.1) ∙ length-set levels x.0 x.1

set-append : (xs ys : List Setting) (levels : List ℕ) → set_all ys (set_all xs levels) ≡ set_all (xs ++ ys) levels
unfolding set_all
set-append [] ys levels = refl
set-append (x ∷ xs) ys levels = set-append xs ys (set levels x.0 x.1)

-- a list of calls makes all that its messages gave, one after another
fed : (u : ℕ) (ms : List Message) (levels : List ℕ) → feed u ms levels ≡ set_all (given u ms) levels
unfolding feed concat_map set_all
fed u [] levels = refl
fed u (m ∷ ms) levels = fed u ms (set_all (made (change u m)) levels) ∙ set-append (made (change u m)) (given u ms) levels

module _ (channel : ℕ) where
  -- a setting, then others
  sooner : (c v : ℕ) (xs : List Setting) (levels : List ℕ) {l : ℕ} → channel < length levels
      → Last channel (get_or (set levels c v) channel 0) xs l → Last channel (get_or levels channel 0) ((c, v) ∷ xs) l
  sooner c v xs levels h (last ahead level behind a) = last ((c, v) ∷ ahead) level behind a
  sooner c v xs levels h (never a) = by (eqb c channel) refl
    where
      by : (b : Bool) → eqb c channel ≡ b → Last channel (get_or levels channel 0) ((c, v) ∷ xs) (get_or (set levels c v) channel 0)
      by true e = rw (eqb-true c channel e, get_or-set_same levels channel v 0 h) (last [] v xs a)
      by false e = rw (get_or-set_other levels c channel v 0 (λ q. eqb-false c channel e (sym q))) (never {xs = (c, v) ∷ xs} (eqb-false c channel e, a))

  holds : (xs : List Setting) (levels : List ℕ) → channel < length levels → Last channel (get_or levels channel 0) xs (get_or (set_all xs levels) channel 0)
  unfolding set_all
  holds [] levels h = never tt
  holds ((c, v) ∷ xs) levels h = sooner c v xs levels h (holds xs (set levels c v) (lt-length-set levels c v h))

-- over every list of messages, from any levels
fed-holds : (u : ℕ) (ms : List Message) (levels : List ℕ) (channel : ℕ) {before : ℕ} → channel < length levels → get_or levels channel 0 ≡ before
    → Last channel before (given u ms) (get_or (feed u ms levels) channel 0)
fed-holds u ms levels channel h e =
    subst (λ (b : ℕ). Last channel b (given u ms) (get_or (feed u ms levels) channel 0)) e
    (rw (fed u ms levels) (holds channel (given u ms) levels h))

pub levels-hold : claims.LevelsHold
levels-hold u ms = (
  ap length (fed u ms initial) ∙ set-length (given u ms) initial ∙ length-replicate {A = ℕ} 512 0,
  λ channel h. fed-holds u ms initial channel (rw (length-replicate {A = ℕ} 512 0) h) (get_or-replicate {A = ℕ} 512 channel 0 0 h),
)

-- ---- the last record of a list

module _ (channel : ℕ) where
  untouched : (xs : List Setting) (levels : List ℕ) → All (Elsewhere channel) xs → get_or (set_all xs levels) channel 0 ≡ get_or levels channel 0
  unfolding set_all
  untouched [] levels a = refl
  untouched ((c, v) ∷ xs) levels (n, a) = untouched xs (set levels c v) a ∙ get_or-set_other levels c channel v 0 (λ q. n (sym q))

  set_last : (level : ℕ) (ahead behind : List Setting) (levels : List ℕ) → All (Elsewhere channel) behind → channel < length levels
      → get_or (set_all (ahead ++ (channel, level) ∷ behind) levels) channel 0 ≡ level
  unfolding set_all
  set_last level ahead behind levels a h =
      let l : channel < length (set_all ahead levels) = rw (set-length ahead levels) h in
      ap (λ (xs : List ℕ). get_or xs channel 0) (sym (set-append ahead ((channel, level) ∷ behind) levels))
      ∙ untouched behind (set (set_all ahead levels) channel level) a
      ∙ get_or-set_same (set_all ahead levels) channel level 0 l

  -- what other records set
  set-elsewhere : (u : ℕ) (xs : List (Value channel_level_format)) → All (λ x. x.0 ≡ u → x.1.0 ≡ channel → ⊥) xs → All (Elsewhere channel) (list_settings u xs)
  unfolding keep
  set-elsewhere u [] a = tt
  set-elsewhere u ((v, setting) ∷ xs) (n, a) = by (eqb v u) refl (set-elsewhere u xs a)
    where
      by : (b : Bool) → eqb v u ≡ b → All (Elsewhere channel) (list_settings u xs) → All (Elsewhere channel) (list_settings u ((v, setting) ∷ xs))
      by true e more = rw e (n (eqb-true v u e), more)
      by false e more = rw e more

pub later-wins : claims.LaterWins
later-wins u channel level s rest ahead behind levels e a taken h =
    let here : list_settings u ((u, (channel, level)) ∷ behind) ≡ (channel, level) ∷ list_settings u behind =
    keep_some (record_setting u) (u, (channel, level)) behind (rw (eq-eqb u u refl) refl) in
    let sets : settings_of (change u (chls s)) ≡ list_settings u ahead ++ (channel, level) ∷ list_settings u behind =
    rw e (keep_append (record_setting u) ahead ((u, (channel, level)) ∷ behind)) ∙ ap (list_settings u ahead ++◌) here in
    rw (taken, sets) (set_last channel level (list_settings u ahead) (list_settings u behind) levels (set-elsewhere channel u behind a) h)
