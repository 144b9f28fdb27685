use native.Mathlib.Omega.{arith}
use Rattle.wire.proofs.Numbers.{number-4, number_short}
use Rattle.wire.proofs.Cursor.u32.Goals as goal

pub returns-then-saturating_sub-ge4 : goal.returns-then-saturating_sub-ge4
returns-then-saturating_sub-ge4 c = number-4 _ _ (omega arith) c.from_le_bytes-n.ensures

pub returns : goal.returns
returns c = number_short 4 _ _ (omega arith)
