use native.Mathlib.Omega.{arith}
use Rattle.wire.proofs.Stepping.{room-short}
use Rattle.wire.proofs.Cursor.skip_items.Goals as goal

pub returns-in_default : goal.returns-in_default
returns-in_default c = room-short _ _ _ (omega (arith, c.in_default.ensures))
