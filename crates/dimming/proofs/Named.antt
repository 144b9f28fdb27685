-- A message asks for the settings that it names, and for no others.
use Prim.Native.Nat.{ℕ, zero, suc, ◌+◌, ◌<◌}
use mathlib.Core.Path.{◌≡◌, refl, sym, ap, ◌∙◌}
use mathlib.Core.Bool.{Bool, true, false, ◌&&◌}
use mathlib.Core.List.{List, [], ◌∷◌}
use mathlib.Core.Option.{none, some}
use native.Mathlib.Nat.{add-zero}
use native.Mathlib.Omega.{arith}
use borrow.Author.Tests.{eqb-true, eq-eqb}
use lib.ListN.{length, get_or}
use lib.Dec.{eqb}
use Rattle.format.specs.Format.{Value, Read, got, refused, pick, decode, In, here, there}
use Rattle.format.proofs.Members.{kept_of, keeps}
use Rattle.protocol.specs.Kind.{ChBk, ChLs, body_of}
use Rattle.dimming.specs.Levels.{Message, chbk, chls, Setting, run, block_settings, record_setting, list_settings, asked, change, settings_of}
use Rattle.dimming.specs.Claims as claims
use Rattle.dimming.specs.Claims.{Names, in_block, in_list}

-- ---- a run

-- x is the i-th of a run
record At (first : ℕ) (levels : List ℕ) (x : Setting) : Type 0 where
  pub index : ℕ
  pub within : index < length levels
  pub is : x ≡ (first + index, get_or levels index 0)

of-run : (levels : List ℕ) (first : ℕ) {x : Setting} → In x (run first levels) → At first levels x
unfolding run
of-run [] first i = elim i [ ]
of-run (l ∷ levels) first here = record { index = 0; within = omega arith; is = ap (λ (c : ℕ). (c, l)) (sym (add-zero first)) }
of-run (l ∷ levels) first (there i) =
    let a = of-run levels (suc first) i in
    let e : suc first + a.index ≡ first + suc a.index = omega arith in
    record { index = suc a.index; within = omega (arith, a.within); is = a.is ∙ ap (λ (c : ℕ). (c, get_or levels a.index 0)) e }

in-run : (levels : List ℕ) (first i : ℕ) → i < length levels → In (first + i, get_or levels i 0) (run first levels)
unfolding run
in-run [] first i h = absurd (omega arith)
in-run (l ∷ levels) first zero h = rw (add-zero first) here
in-run (l ∷ levels) first (suc i) h =
    let e : first + suc i ≡ suc first + i = omega arith in
    rw e (there (in-run levels (suc first) i (omega arith)))

-- ---- a channel block

module _ (u : ℕ) (s : List ℕ) where
  block-names : (x : Setting) → In x (settings_of (change u (chbk s))) → Names u (chbk s) x
  block-names x i = go (decode (body_of ChBk) s) refl i
    where
      test : (a b : Bool) (blind universe first : ℕ) (levels rest : List ℕ) → eqb blind 0 ≡ a → eqb universe u ≡ b
          → decode (body_of ChBk) s ≡ got (blind, (universe, (first, levels))) rest → In x (pick (a && b) (run first levels) []) → Names u (chbk s) x
      test true true blind universe first levels rest p q e i =
          let a = of-run levels first i in
          rw a.is (in_block {first = first} (rw (eqb-true blind 0 p, eqb-true universe u q) at e) a.index a.within)
      test true false blind universe first levels rest p q e i = elim i [ ]
      test false b blind universe first levels rest p q e i = elim i [ ]

      go : (r : Read (Value (body_of ChBk))) → decode (body_of ChBk) s ≡ r → In x (settings_of (asked (block_settings u) r)) → Names u (chbk s) x
      go (got (blind, (universe, (first, levels))) rest) e i = test (eqb blind 0) (eqb universe u) blind universe first levels rest refl refl e i
      go (refused n) e i = elim i [ ]

  list-names : (x : Setting) → In x (settings_of (change u (chls s))) → Names u (chls s) x
  list-names x i = go (decode (body_of ChLs) s) refl i
    where
      found : (b : Bool) (universe channel level : ℕ) → eqb universe u ≡ b → pick b (some (channel, level)) none ≡ some x
          → (records : Value (body_of ChLs)) (rest : List ℕ) → decode (body_of ChLs) s ≡ got records rest → In (universe, (channel, level)) records
          → Names u (chls s) x
      found true universe channel level p g records rest e a =
          let z : (channel, level) ≡ x = cc in
          rw (← z) (in_list e (rw (eqb-true universe u p) at a))
      found false universe channel level p g records rest e a = let z : ◌≡◌ {A = ℕ} 0 1 = cc in absurd (omega arith)

      go : (r : Read (Value (body_of ChLs))) → decode (body_of ChLs) s ≡ r → In x (settings_of (asked (list_settings u) r)) → Names u (chls s) x
      go (got records rest) e i =
          let k = kept_of (record_setting u) records x i in
          found (eqb k.element.0 u) k.element.0 k.element.1.0 k.element.1.1 refl k.gives records rest e k.among
      go (refused n) e i = elim i [ ]

named : (u : ℕ) (m : Message) (x : Setting) → Names u m x → In x (settings_of (change u m))
named u m x (in_block {levels = levels} {first = first} e i h) = rw (e, eq-eqb u u refl) (in-run levels first i h)
named u m x (in_list {records = records} {channel = channel} {level = level} e a) =
    rw e (keeps (record_setting u) records a (rw (eq-eqb u u refl) refl))

pub settings-named : claims.SettingsNamed
settings-named u (chbk s) x = (block-names u s x, named u (chbk s) x)
settings-named u (chls s) x = (list-names u s x, named u (chls s) x)
