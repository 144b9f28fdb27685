-- The number of a list's head, whose count is declared.
use Prim.Native.Nat.{ℕ, ◌^◌}
use mathlib.Core.Path.{◌≡◌, refl}
use mathlib.Core.Bool.{◌||◌}
use mathlib.Core.List.{List}
use lib.ListN.{length}
use lib.Dec.{leb}
use Rattle.format.specs.Format.{Format, Value, number, ◌&◌}
use Rattle.format.specs.Fault.{holds_zero, over_limit, too_long}
use Rattle.put.specs.Put.{Weighs}
use Rattle.put.proofs.Writing.{put-numbers, put-pair, put-code, put_as, put-cstring, put-ucs2, cstring-pair, ucs2-pair}
use Rattle.put.specs.Faults.{none, and_long}
use Rattle.put.specs.declared.Faults.{Faults}
use Rattle.put.proofs.Judging.{Found, judging}
use Rattle.put.proofs.Bodies.{Sized, Weighed, weighed-by, sized, sized-whole, refused, taken}

-- the count alone can be too long
pub weight-counted : {n len at w count : ℕ} {out : List ℕ} {y r : Faults} {f : Format} {v : Value f}
    → Weighs n r.zeros r.over r.long at len (length out) → r ≡ and_long y (leb (256 ^ w) count) → Found none f v y → Sized (f & number w) (v, count) len
    → Weighed n (holds_zero f v) (over_limit f v) (too_long f v || leb (256 ^ w) count) (f & number w) (v, count) at out
weight-counted {w = w} {count = count} {f = f} {v = v} p e j s =
    weighed-by _ (holds_zero f v) (over_limit f v) (too_long f v || leb (256 ^ w) count) p (rw j.found-as at e) s

-- what `search` makes the answers of a head's writer from
pub ruleset counted = (
  refl,
  refused,
  taken,
  weight-counted,
  sized,
  sized-whole,
  judging,
  put-pair,
  put-code,
  put_as,
  put-numbers,
  put-cstring,
  put-ucs2,
  cstring-pair,
  ucs2-pair,
)
