use native.Mathlib.Omega.{arith}
use Rattle.wire.proofs.Numbers.{units-numbers}
use Rattle.wire.proofs.Copying.{numbers-7, numbers-13, numbers-copied}
use Rattle.wire.proofs.List+u16+u16.copy.Goals as goal

pub returns-then-saturating_sub-left : goal.returns-then-saturating_sub-left
returns-then-saturating_sub-left c = numbers-7 2 _ _ _ _ (omega arith)

pub returns-then-out-left : goal.returns-then-out-left
returns-then-out-left c = numbers-13 2 _ _ _ _ (omega arith) c.if-out-left.true

pub returns : goal.returns
returns c = let a = c.args in
    let there = units-numbers a.body.now a.self.at a.self.left (omega arith) in
    numbers-copied 2 _ _ _ _ (omega arith) c.if-out-left.false (rw there at c.copy_units.ensures)
