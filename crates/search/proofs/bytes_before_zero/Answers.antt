use native.Mathlib.Omega.{arith}
use mathlib.Core.Path.{refl}
use Rattle.search.proofs.Free.{free-none, first-here, first-free, first-join}
use Rattle.search.proofs.Zero.{none-behind, few-behind, found-behind, near-behind}
use Rattle.search.proofs.bytes_before_zero.Goals as goal

pub returns-then-s-at : goal.returns-then-s-at
returns-then-s-at c = none-behind _ _ c.if-s-at.true

pub returns-then-near-lt8 : goal.returns-then-near-lt8
returns-then-near-lt8 c = let a = c.args in few-behind a.s.now a.at c.first_of_few.ensures

pub returns-then-n-lt8 : goal.returns-then-n-lt8
returns-then-n-lt8 c = let a = c.args in
    near-behind a.s.now a.at (first-here (free-none refl) c.first_of_8-n.ensures c.if-n-lt8.true (omega arith)) (omega arith)

pub returns : goal.returns
returns c = let a = c.args in
    let near = first-free c.first_of_8-n.ensures c.if-n-lt8.false in
    found-behind a.s.now a.at (first-join near c.first_by_blocks.ensures) c.place_before.ensures
