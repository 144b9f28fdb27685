-- Sizes of lists of one width, and lists of numbers too long for their count.
use Prim.Native.Nat.{◌+◌, ◌*◌}
use mathlib.Core.Path.{◌≡◌, refl}
use mathlib.Core.List.{List, map}
use lib.ListN.{length}
use Rattle.std.proofs.lemmas.List.{length-map}
use Rattle.format.specs.Format.{Format, Value, list, size}
use Rattle.format.proofs.Passing.{Plain, total-width}
use Rattle.format.proofs.Width.{width}

pub list-size : {A : Type 0} (f : Format) → Plain f → (of : A → Value f) (s : List A) → size (list 2 f) (map of s) ≡ 2 + length s * width f
unfolding size
list-size f p of s = rw (total-width f p (map of s), length-map s of) refl
