use mathlib.Core.Path.{◌≡◌}
use mathlib.Core.List.{◌++◌}
use lib.ListN.{take, drop}
use Rattle.wire.proofs.Numbers.{numbers_at}
use Rattle.wire.proofs.copy_units.Given as goal

abbrev pub invariant-loop-i : goal.invariant-loop-i
invariant-loop-i l = l.out ≡ take l.i (numbers_at 2 l.body l.start l.n) ++ drop l.i l.initial.out
