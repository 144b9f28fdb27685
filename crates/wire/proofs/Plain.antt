-- Items of numbers only: a list of them is there exactly where the bytes are.
use Prim.Native.Nat.{ℕ, ◌+◌, ◌-◌, ◌*◌}
use mathlib.Core.Path.{◌≡◌, refl, ◌∙◌}
use mathlib.Core.Bool.{Bool, true, false}
use mathlib.Core.List.{List}
use lib.ListN.{length}
use lib.Dec.{leb}
use Rattle.format.specs.Format.{Format, number, list, pick}
use Rattle.format.specs.View.{Seen, seen, missed, view}
use Rattle.format.specs.Passed.{passed, room}
use Rattle.format.proofs.Width.{width}
use Rattle.format.proofs.Views.{after}
use Rattle.format.proofs.Passing.{Plain, passed-plain, view-list}
use Rattle.wire.specs.Items.{items_behind, items_at}

module _ (f : Format) (p : Plain f) (s : List ℕ) where
  -- a list is there exactly where its count, of w bytes, and its bytes are
  pub counted-list : (w at : ℕ) → view (list w f) s at ≡ items_behind (width f) s (view (number w) s at)
  unfolding after room
  counted-list w at = view-list f s w at ∙ behind (view (number w) s at)
    where
      passes : (b : Bool) (n e : ℕ) →
          after {A = Unit {0}} {B = ℕ × ℕ} (pick b (seen tt (e + n * width f)) (missed 7)) (λ u d. seen (e, n) d)
          ≡ pick b (seen (e, n) (e + n * width f)) (missed 7)
      passes true n e = refl
      passes false n e = refl

      behind : (v : Seen ℕ) → after v (λ n e. after {B = ℕ × ℕ} (passed f s e n) (λ u d. seen (e, n) d)) ≡ items_behind (width f) s v
      behind (seen n e) = rw (passed-plain f p s e n) (passes (leb (n * width f) (length s - e)) n e)
      behind (missed k) = refl

  pub plain-list : (at : ℕ) → view (list 2 f) s at ≡ items_at (width f) s at
  unfolding items_at
  plain-list at = counted-list 2 at
