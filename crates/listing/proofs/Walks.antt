-- The listing of a stream, written packet by packet.
use Prim.Native.Nat.{ℕ, suc, ◌+◌, ◌-◌, ◌≤◌, ◌<◌}
use mathlib.Core.Path.{◌≡◌, refl, sym, ◌∙◌}
use mathlib.Core.List.{List, ◌++◌, append_assoc}
use native.Mathlib.Nat.{zero-add, add-zero, sub-zero, zero-sub}
use native.Mathlib.Omega.{arith}
use lib.ListN.{length, drop}
use lib.Seq.{sets}
use Rattle.format.specs.Format.{concat_map}
use Rattle.format.specs.View.{View}
use Rattle.format.specs.Walk.{Step, stop, report, Walked, follow, walk_from}
use Rattle.protocol.specs.Step.{Report, step_at, walk}
use Rattle.protocol.proofs.Steps.{moved}
use Rattle.text.specs.Prints.{Prints}
use Rattle.text.proofs.Loops.{Onto, onto-none, onto-more}
use Rattle.listing.specs.Listing.{report_lines, end_lines, ended_lines, listing, Part}

-- ---- the loop

-- the lines of the rest of a walk after n reports
abbrev rest_lines : (s : List ℕ) (n : ℕ) → Walked (Report View) → List ℕ
rest_lines s n w = concat_map (report_lines s) w.0 ++ ended_lines (n + length w.0) w.1

-- after n reports the walk is at an offset of s
pub record Walking (from : ℕ) (s : List ℕ) (n at q : ℕ) (o : List ℕ) (p : ℕ) (o₀ : List ℕ) : Type 0 where
  pub counted : n ≤ at
  pub within : at ≤ length s
  pub onto : Onto from (rest_lines s n (walk_from step_at (suc (length s) - n) s at)) q o (listing s) p o₀

whole : (s : List ℕ) → listing s ≡ rest_lines s 0 (walk_from step_at (suc (length s) - 0) s 0)
unfolding listing walk
whole s = let e : suc (length s) - 0 ≡ suc (length s) = omega arith in rw (e, zero-add) refl

pub walking-none : {from : ℕ} {s o : List ℕ} {p : ℕ} → Walking from s 0 0 p o p o
walking-none {s = s} = record { counted = omega arith; within = omega arith; onto = rw (← whole s) onto-none }

-- one step of the walk, while there is fuel
from : (s : List ℕ) (n at : ℕ) → n ≤ length s → {x : Step (Report View)} → step_at s at ≡ x
    → walk_from step_at (suc (length s) - n) s at ≡ follow (walk_from step_at (suc (length s) - (n + 1)) s) x
unfolding walk_from
from s n at h e = let f : suc (length s) - n ≡ suc (suc (length s) - (n + 1)) = omega arith in rw (f, e) refl

module _ {s : List ℕ} {n at p q : ℕ} {o o₀ : List ℕ} where
  pub walking-less : {from e : ℕ} {y : Report View} → report y e ≡ step_at s at → Walking from s n at q o p o₀ → length s - e < length s - at
  walking-less t w = let m = moved s at (sym t) in omega (arith, m.on, m.within)

  pub walking-more : {from e : ℕ} {y : Report View} {o' : List ℕ} {q' : ℕ} → report y e ≡ step_at s at → Walking from s n at q o p o₀
      → Prints from (report_lines s y) q o q' o' → Walking from s (n + 1) e q' o' p o₀
  unfolding concat_map
  walking-more {e = e} {y = y} t w a =
      let m = moved s at (sym t) in
      let k : n ≤ length s = omega (arith, w.counted, w.within) in
      let more = walk_from step_at (suc (length s) - (n + 1)) s e in
      let f : n + suc (length more.0) ≡ n + 1 + length more.0 = omega arith in
      record {
        counted = omega (arith, w.counted, m.on);
        within = m.within;
        onto = onto-more (rw (from s n at k (sym t), f, append_assoc) refl) w.onto a;
      }

  pub walking-end : {from number offset : ℕ} {o' : List ℕ} {q' : ℕ} → stop number offset ≡ step_at s at → Walking from s n at q o p o₀
      → Prints from (end_lines n number) q o q' o' → Prints from (listing s) p o₀ q' o'
  unfolding concat_map
  walking-end t w a =
      let k : n ≤ length s = omega (arith, w.counted, w.within) in
      w.onto.whole_of (rw (from s n at k (sym t), add-zero) a)

-- ---- a part of the listing

module _ {from end : ℕ} {text before after : List ℕ} (a : Prints from text 0 before end after) where
  held : after ≡ sets before 0 (drop from text)
  held = a.stored ∙ rw (zero-sub, sub-zero) refl

  pub part : Part text from before (end - from) after
  part = record { counts = omega (arith, a.stops); holds = held }
