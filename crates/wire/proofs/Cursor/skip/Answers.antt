use native.Mathlib.Omega.{arith}
use Rattle.wire.proofs.Stepping.{room-there, room-short}
use Rattle.wire.proofs.Cursor.skip.Goals as goal

pub returns-then-n-saturating_sub : goal.returns-then-n-saturating_sub
returns-then-n-saturating_sub c = room-there _ _ _ (omega arith)

pub returns : goal.returns
returns c = room-short _ _ _ (omega arith)
