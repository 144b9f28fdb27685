use native.Mathlib.Omega.{arith}
use Rattle.wire.proofs.Numbers.{number-2, number_short}
use Rattle.wire.proofs.Cursor.u16.Goals as goal

pub returns-then-saturating_sub-ge2 : goal.returns-then-saturating_sub-ge2
returns-then-saturating_sub-ge2 c = number-2 _ _ (omega arith) c.from_le_bytes-n.ensures

pub returns : goal.returns
returns c = number_short 2 _ _ (omega arith)
