-- The call: what the walks give is the answer.
use Prim.Native.Nat.{ℕ, ◌/◌, ◌≤◌}
use mathlib.Core.Path.{◌≡◌, refl, ap, ◌∙◌}
use mathlib.Core.List.{List, ◌++◌}
use native.Mathlib.Nat.{zero-add}
use native.Mathlib.Omega.{arith}
use borrow.Author.Rules as kit
use borrow.Author.Tests.{le-ltb}
use lib.ListN.{length, drop}
use lib.Seq.{sets, sets-eq}
use Rattle.format.specs.Refusals.{is_one_of}
use Rattle.supporting.specs.Offsets.{offsets_of, stop_of, unsupported, unsupported_offsets, answer}
use Rattle.supporting.proofs.Offsets.{few}
use Rattle.refusal.specs.Says.{number_says}
use Rattle.std.specs.Prelude.{Ok}
use Rattle.capabilities.specs.Support.{lacked_by, call_says}
use Rattle.capabilities.specs.declared.Support.{Support}
use Rattle.capabilities.specs.declared.Unsupported.{Unsupported}

module _ (capabilities s out : List ℕ) (support : Support)
    (l : support.channel_lists ≡ is_one_of capabilities 1) (x : support.external_sources ≡ is_one_of capabilities 3)
    (found : Unsupported) (c : found.count ≡ length (offsets_of (lacked_by support) s)) (e : number_says found.end ≡ stop_of s) where
  those : offsets_of (lacked_by support) s ≡ unsupported_offsets capabilities s
  those = rw (l, x) refl

  due : found.count ≡ length (unsupported_offsets capabilities s)
  due = c ∙ ap length those

  enough : (after : List ℕ) → after ≡ sets out 0 (offsets_of (lacked_by support) s) → found.count ≤ length out
      → call_says (Ok found) after ≡ answer capabilities s out
  enough after g h =
      let xs = unsupported_offsets capabilities s in
      let k : after ≡ xs ++ drop (length xs) out = g ∙ ap (sets out 0) those ∙ sets-eq xs out 0 (omega (arith, due)) ∙ rw zero-add refl in
      rw (le-ltb (length out) (length xs) (omega (arith, due)), due, e, k) refl

  -- one walk, on a list that is always long enough
  pub answers-once : (after : List ℕ) → after ≡ sets out 0 (offsets_of (lacked_by support) s) → length s / 20 ≤ length out
      → call_says (Ok found) after ≡ answer capabilities s out
  answers-once after g h = let k = few (unsupported capabilities) s in enough after g (omega (arith, k, due))

  -- a second walk, of which the first told how many offsets there are
  pub answers-twice : (told : Unsupported) → told.count ≡ length (offsets_of (lacked_by support) s) → told.count ≤ length out
      → (after : List ℕ) → after ≡ sets out 0 (offsets_of (lacked_by support) s) → call_says (Ok found) after ≡ answer capabilities s out
  answers-twice told d h after k = enough after k (omega (arith, c, d))

pub ruleset calls = (kit.rules, answers-once, answers-twice)
