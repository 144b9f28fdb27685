use mathlib.Core.Path.{◌≡◌}
use Rattle.book.specs.Scan.{remove_at}
use Rattle.book.proofs.shift_down.Given as goal

abbrev pub invariant-loop-i : goal.invariant-loop-i
invariant-loop-i l = remove_at l.i l.entries ≡ remove_at l.hole l.initial.entries
