use Rattle.search.specs.Free.{byte_of, Rows}
use mathlib.Core.Path.{◌≡◌}
use mathlib.Core.Bool.{false}
use Prim.Native.Nat.{ℕ, ◌<◌, ◌+◌}
use Rattle.search.proofs.zero_in_256.Given as goal

abbrev pub invariant-loop-j : goal.invariant-loop-j
invariant-loop-j l = l.hit ≡ false → (k : ℕ) → k < l.j → Rows (byte_of l.s) (l.i + k) 16
