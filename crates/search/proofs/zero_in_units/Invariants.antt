use Rattle.search.specs.Free.{unit_of, Free}
use mathlib.Core.Path.{◌≡◌}
use mathlib.Core.Bool.{false}
use Prim.Native.Nat.{◌+◌}
use Rattle.search.proofs.zero_in_units.Given as goal

abbrev pub invariant-loop-j : goal.invariant-loop-j
invariant-loop-j l = l.hit ≡ false → Free (unit_of l.s l.at) l.n (l.n + l.j)
