use Rattle.search.specs.Free.{byte_of, Free}
use mathlib.Core.Path.{◌≡◌}
use mathlib.Core.Bool.{false}
use Prim.Native.Nat.{◌+◌}
use Rattle.search.proofs.zero_in_16.Given as goal

abbrev pub invariant-loop-j : goal.invariant-loop-j
invariant-loop-j l = l.hit ≡ false → Free (byte_of l.s) l.i (l.i + l.j)
