use Prim.Native.Nat.{◌≤◌}
use mathlib.Core.Path.{◌≡◌}
use Rattle.book.specs.Scan.{remove_at}
use Rattle.book.proofs.shift_up.Given as goal

abbrev pub invariant-loop-i : goal.invariant-loop-i
invariant-loop-i l = (l.to ≤ l.i) × (remove_at l.i l.entries ≡ remove_at l.hole l.initial.entries)
