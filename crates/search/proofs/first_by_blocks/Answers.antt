use Rattle.search.proofs.Free.{free-none, free-join, first-join, first-free, first-here}
use native.Mathlib.Omega.{arith}
use mathlib.Core.Path.{refl}
use Rattle.search.proofs.first_by_blocks.Goals as goal

pub returns-then-r-stop : goal.returns-then-r-stop
returns-then-r-stop c = first-here (free-none refl) c.first_by_eights-r.ensures c.if-r-stop.true (omega arith)

pub returns : goal.returns
returns c = let near = first-free c.first_by_eights-r.ensures c.if-r-stop.false in
    first-join (free-join (free-join near c.pass_256-i.ensures.passed) c.pass_16-i.ensures.passed) c.first_one_by_one-2.ensures
