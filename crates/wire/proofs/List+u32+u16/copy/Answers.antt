use native.Mathlib.Omega.{arith}
use Rattle.wire.proofs.Copying.{numbers-7, numbers-13}
use Rattle.wire.proofs.List+u32+u16.copy.Goals as goal

pub returns-then-saturating_sub-left : goal.returns-then-saturating_sub-left
returns-then-saturating_sub-left c = numbers-7 4 _ _ _ _ (omega arith)

pub returns-then-out-left : goal.returns-then-out-left
returns-then-out-left c = numbers-13 4 _ _ _ _ (omega arith) c.if-out-left.true

pub returns : goal.returns
returns c = c.copy_u32s.ensures
