-- A step through a list, case by case: done with no item left; else the item, or its refusal.
use Prim.Native.Nat.{ℕ, ◌+◌, ◌-◌, ◌<◌, ◌≤◌}
use mathlib.Core.Path.{◌≡◌}
use mathlib.Core.List.{List}
use borrow.Author.Tests.{eq-eqb, ne_eqb, le-leb, lt-leb}
use lib.ListN.{length}
use Rattle.format.specs.Format.{Format}
use Rattle.format.specs.View.{View, seen, missed, view, item, done, broken, stepped}
use Rattle.format.specs.Passed.{room}

module _ (f : Format) (s : List ℕ) (at n : ℕ) where
  pub next-done : n ≡ 0 → done ≡ stepped f s at n
  unfolding stepped
  next-done h = rw (eq-eqb n 0 h)

  pub next-item : {v : View f} {e : ℕ} → (n ≡ 0 → ⊥) → view f s at ≡ seen v e → item v e (n - 1) ≡ stepped f s at n
  unfolding stepped
  next-item h p = rw (ne_eqb n 0 h, p)

  pub next-off : {k : ℕ} → (n ≡ 0 → ⊥) → view f s at ≡ missed k → broken k ≡ stepped f s at n
  unfolding stepped
  next-off h p = rw (ne_eqb n 0 h, p)

-- bytes passed over
module _ (s : List ℕ) (at n : ℕ) where
  pub room-there : n ≤ length s - at → seen tt (at + n) ≡ room s at n
  unfolding room
  room-there l = rw (le-leb n (length s - at) l)

  pub room-short : length s - at < n → missed 7 ≡ room s at n
  unfolding room
  room-short l = rw (lt-leb n (length s - at) l)
