-- The laws of the calls: a body that was read, and one that does not read.
use Prim.Native.Nat.{ℕ, ◌+◌, ◌*◌, ◌≤◌}
use mathlib.Core.Path.{◌≡◌, refl, sym, ◌∙◌}
use mathlib.Core.Bool.{Bool, true, false}
use mathlib.Core.List.{List, []}
use borrow.Author.Rules as kit
use lib.ListN.{length}
use lib.Dec.{eqb}
use Rattle.format.specs.Format.{pick}
use Rattle.format.specs.Fault.{any}
use Rattle.format.specs.View.{seen, missed, view}
use Rattle.format.proofs.Look.{unseen}
use Rattle.protocol.specs.Kind.{ChBk, ChLs, body_of}
use Rattle.protocol.proofs.Values.{block-value, list-value}
use Rattle.sdmx.specs.Says.{chbk_view, chls_view}
use Rattle.sdmx.specs.declared.ChBk as block
use Rattle.sdmx.specs.declared.ChLs as channel-list
use Rattle.dimming.specs.Levels.{chbk, chls, Setting, settings, unread, change, is_past, set_all, answer}
use Rattle.dimmer.specs.Settings.{block_set, records_set}
use Rattle.dimmer.proofs.Runs.{runs}
use Rattle.dimmer.proofs.Records.{records}

-- ---- a channel list, by what the two passes found

module _ (xs : List Setting) (levels : List ℕ) where
  pub list-past : {b : Bool} → b ≡ any is_past xs → b ≡ true → (20, levels) ≡ answer (settings xs) levels
  unfolding set_all
  list-past e h = rw (sym e ∙ h) refl

  pub list-clear : {b : Bool} → b ≡ any is_past xs → b ≡ false → any is_past xs ≡ false
  list-clear e h = sym e ∙ h

  pub list_set : {b : Bool} {after : List ℕ} → b ≡ any is_past xs → b ≡ false → after ≡ set_all xs levels → (0, after) ≡ answer (settings xs) levels
  list_set e h q = rw (sym e ∙ h, q) refl

-- ---- a body

module _ (u : ℕ) (s : List ℕ) (levels : List ℕ) where
  pub block-taken : {x : block.ChBk} {e n : ℕ} {after : List ℕ} → seen (chbk_view x) e ≡ view (body_of ChBk) s 0
      → (n, after) ≡ answer (settings (block_set u s x)) levels → (n, after) ≡ answer (change u (chbk s)) levels
  block-taken t i = rw (block-value s (sym t)) i

  pub list-taken : {x : channel-list.ChLs} {e n : ℕ} {after : List ℕ} → seen (chls_view x) e ≡ view (body_of ChLs) s 0
      → (n, after) ≡ answer (settings (records_set u s x.channel_levels.at x.channel_levels.left)) levels
      → (n, after) ≡ answer (change u (chls s)) levels
  list-taken t i = rw (list-value s (sym t)).1 i

  kept : (n : ℕ) → (n, levels) ≡ answer (unread n) levels
  unfolding set_all
  kept n = go (eqb n 0)
    where
      go : (b : Bool) → ◌≡◌ {A = ℕ × List ℕ} (n, levels) (n, set_all (pick b [] []) levels)
      go true = refl
      go false = refl

  pub block_refused : {n : ℕ} → missed n ≡ view (body_of ChBk) s 0 → (n, levels) ≡ answer (change u (chbk s)) levels
  block_refused {n} t = rw (unseen (body_of ChBk) s 0 (sym t)) (kept n)

  pub list-refused : {n : ℕ} → missed n ≡ view (body_of ChLs) s 0 → (n, levels) ≡ answer (change u (chls s)) levels
  list-refused {n} t = rw (unseen (body_of ChLs) s 0 (sym t)) (kept n)

pub list-within : (s : List ℕ) {x : channel-list.ChLs} {e : ℕ} → seen (chls_view x) e ≡ view (body_of ChLs) s 0
    → x.channel_levels.at + x.channel_levels.left * 4 ≤ length s
list-within s t = (list-value s (sym t)).0

pub ruleset needs = (kit.rules, runs, records, list-past, list-clear, list_set, list-within, block-taken, block_refused, list-taken, list-refused)
