-- The walk of a stream from an offset on.
use Prim.Native.Nat.{ℕ, zero, suc, ◌-◌, ◌<◌}
use mathlib.Core.Path.{◌≡◌, refl}
use mathlib.Core.List.{List, [], ◌∷◌}
use mathlib.Core.Option.{some}
use native.Mathlib.Nat.{not-suc-le-zero}
use native.Mathlib.Omega.{arith}
use lib.ListN.{length}
use Rattle.format.specs.View.{View}
use Rattle.format.specs.Walk.{Step, stop, report, Walked, follow, walk_from}
use Rattle.protocol.specs.Step.{Report, step_at, walk}
use Rattle.protocol.proofs.Steps.{moved}

-- every packet takes a byte at least, so this fuel lasts
unfoldable pub walk_on : List ℕ → ℕ → Walked (Report View)
walk_on s at = walk_from step_at (suc (length s - at)) s at

-- any fuel that lasts gives the same walk
same-walk : (s : List ℕ) (f g at : ℕ) → length s - at < f → length s - at < g → walk_from step_at f s at ≡ walk_from step_at g s at
unfolding walk_from
same-walk s zero g at h k = absurd (not-suc-le-zero h)
same-walk s (suc f) zero at h k = absurd (not-suc-le-zero k)
same-walk s (suc f) (suc g) at h k = on (step_at s at) refl (same-walk s f g)
  where
    on : (x : Step (Report View)) → step_at s at ≡ x
        → ((next : ℕ) → length s - next < f → length s - next < g → walk_from step_at f s next ≡ walk_from step_at g s next)
        → follow (walk_from step_at f s) x ≡ follow (walk_from step_at g s) x
    on (stop n o) e same = refl
    on (report r next) e same = let m = moved s at e in rw (same next (omega (arith, m.on, m.within)) (omega (arith, m.on, m.within))) refl

pub walk_start : (s : List ℕ) → walk s ≡ walk_on s 0
unfolding walk walk_on
walk_start s = same-walk s (suc (length s)) (suc (length s - 0)) 0 (omega arith) (omega arith)

-- where a step stops, the walk ends
pub walk-stop : (s : List ℕ) (at : ℕ) {n o : ℕ} → step_at s at ≡ stop n o → walk_on s at ≡ ([], some (n, o))
unfolding walk_on walk_from
walk-stop s at e = rw e refl

-- where it reports, its report stands in front of those from the next packet on
pub walk-report : (s : List ℕ) (at : ℕ) {r : Report View} {next : ℕ} → step_at s at ≡ report r next
    → walk_on s at ≡ (r ∷ (walk_on s next).0, (walk_on s next).1)
unfolding walk_on walk_from
walk-report s at {r} {next} e =
    let m = moved s at e in
    rw (e, same-walk s (length s - at) (suc (length s - next)) next (omega (arith, m.on, m.within)) (omega arith)) refl
