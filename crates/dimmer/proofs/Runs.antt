-- A run of levels: set one by one, and what a channel block sets by its tests.
use Prim.Native.Nat.{ℕ, suc, ◌+◌, ◌<◌, ◌≤◌}
use mathlib.Core.Path.{◌≡◌, refl, sym, ap, ◌∙◌}
use mathlib.Core.Bool.{true, false, or-true}
use mathlib.Core.List.{List, [], ◌∷◌, ◌++◌}
use native.Mathlib.Nat.{add-zero}
use native.Mathlib.Numerals.{add-one}
use native.Mathlib.Omega.{arith}
use borrow.Author.Tests.{lt-ltb, le-ltb, eq-eqb, ne_eqb}
use lib.ListN.{length, get_or, set, take, drop}
use lib.Seq.{sets, take-suc, take-length, length-take-le}
use lib.Dec.{ltb}
use Rattle.format.specs.Fault.{any}
use Rattle.sdmx.specs.declared.ChBk.{ChBk}
use Rattle.dimming.specs.Levels.{Setting, run, settings, is_past, set_all, answer}
use Rattle.dimmer.specs.Settings.{block_set}

-- ---- set one by one

sets-snoc : (xs l : List ℕ) (i a : ℕ) → sets l i (xs ++ (a ∷ [])) ≡ set (sets l i xs) (i + length xs) a
sets-snoc [] l i a = rw add-zero
sets-snoc (x ∷ xs) l i a = let e : i + suc (length xs) ≡ suc i + length xs = omega arith in rw e (sets-snoc xs (set l i x) (suc i) a)

-- the first i levels of a run are set
pub record Run (first : ℕ) (xs : List ℕ) (i : ℕ) (before after : List ℕ) : Type 0 where
  pub within : i ≤ length xs
  pub so_far : after ≡ sets before first (take i xs)

pub run_none : {first : ℕ} {xs before : List ℕ} → Run first xs 0 before before
run_none = record { within = omega arith; so_far = refl }

pub run_more : {first i : ℕ} {xs before after : List ℕ} → i < length xs → Run first xs i before after
    → Run first xs (i + 1) before (set after (first + i) (get_or xs i 0))
run_more {first} {i} {xs} {before} h r = record {
  within = omega arith;
  so_far =
      let t : length (take i xs) ≡ i = length-take-le i xs (omega arith) in
      rw (r.so_far, add-one, take-suc xs i 0 h, sets-snoc (take i xs) before first (get_or xs i 0), t) refl;
}

pub run-all : {first i : ℕ} {xs before after : List ℕ} → length xs ≤ i → Run first xs i before after → after ≡ sets before first xs
run-all {first} {i} {xs} {before} h r = let e : i ≡ length xs = omega (arith, r.within) in r.so_far ∙ rw (e, take-length xs) refl

-- ---- as settings

run_past : (xs : List ℕ) (first : ℕ) → 0 < length xs → 512 < first + length xs → any is_past (run first xs) ≡ true
unfolding run any
run_past [] first h k = absurd (omega arith)
run_past (x ∷ []) first h k = rw (lt-ltb 511 first (omega arith))
run_past (x ∷ y ∷ ys) first h k = rw (run_past (y ∷ ys) (suc first) (omega arith) (omega arith)) (or-true (ltb 511 first))

run-within : (xs : List ℕ) (first : ℕ) → first + length xs ≤ 512 → any is_past (run first xs) ≡ false
unfolding run any
run-within [] first k = refl
run-within (x ∷ xs) first k = rw (le-ltb 511 first (omega arith)) (run-within xs (suc first) (omega arith))

set-run : (xs : List ℕ) (first : ℕ) (levels : List ℕ) → set_all (run first xs) levels ≡ sets levels first xs
unfolding set_all run
set-run [] first levels = refl
set-run (x ∷ xs) first levels = set-run xs (suc first) (set levels first x)

empty-run : (xs : List ℕ) (first : ℕ) → length xs ≡ 0 → run first xs ≡ []
unfolding run
empty-run [] first h = refl
empty-run (x ∷ xs) first h = absurd (omega arith)

-- ---- a channel block by its tests

nothing-set : (levels : List ℕ) → (0, levels) ≡ answer (settings []) levels
unfolding any set_all
nothing-set levels = refl

module _ (u : ℕ) (s : List ℕ) (x : ChBk) (levels : List ℕ) where
  abbrev Answers : ℕ → List ℕ → Type 0
  Answers r after = (r, after) ≡ answer (settings (block_set u s x)) levels

  pub block-blind : (x.blind ≡ 0 → ⊥) → Answers 0 levels
  block-blind h = rw (ne_eqb x.blind 0 h) (nothing-set levels)

  pub block-elsewhere : x.blind ≡ 0 → (x.universe_index ≡ u → ⊥) → Answers 0 levels
  block-elsewhere b h = rw (eq-eqb x.blind 0 b, ne_eqb x.universe_index u h) (nothing-set levels)

  module _ (b : x.blind ≡ 0) (e : x.universe_index ≡ u) {run' : List ℕ}
      (l : run' ≡ take x.channel_levels.len (drop x.channel_levels.start s)) where
    applies : answer (settings (run x.first_channel run')) levels ≡ answer (settings (block_set u s x)) levels
    applies = rw (eq-eqb x.blind 0 b, eq-eqb x.universe_index u e, ← l) refl

    pub block-empty : length run' ≡ 0 → Answers 0 levels
    block-empty h = nothing-set levels ∙ ap (λ (xs : List Setting). answer (settings xs) levels) (sym (empty-run run' x.first_channel h)) ∙ applies

    pub block-past : (length run' ≡ 0 → ⊥) → 512 < x.first_channel + length run' → Answers 20 levels
    unfolding set_all
    block-past h k = let p = run_past run' x.first_channel (omega arith) k in rw p at applies

    pub block-set : x.first_channel + length run' ≤ 512 → {after : List ℕ} → after ≡ sets levels x.first_channel run' → Answers 0 after
    block-set k {after} q =
        let p = run-within run' x.first_channel k in
        let a : after ≡ set_all (run x.first_channel run') levels = q ∙ sym (set-run run' x.first_channel levels) in
        rw (p, ← a) at applies

pub ruleset runs = (run_none, run_more, run-all, block-blind, block-elsewhere, block-empty, block-past, block-set)
