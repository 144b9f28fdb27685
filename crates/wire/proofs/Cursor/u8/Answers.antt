use mathlib.Core.Path.{refl}
use native.Mathlib.Omega.{arith}
use Rattle.wire.proofs.Numbers.{number-1, number_short}
use Rattle.wire.proofs.Cursor.u8.Goals as goal

pub returns-then-at-body : goal.returns-then-at-body
returns-then-at-body c = number-1 _ _ (omega arith) refl

pub returns : goal.returns
returns c = number_short 1 _ _ (omega arith)
