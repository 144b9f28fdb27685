use native.Mathlib.Omega.{arith}
use Rattle.put.proofs.Writing.{number-1}
use Rattle.put.proofs.put_u8.Goals as goal

pub returns : goal.returns
returns c = number-1 (omega arith) c.put_array.ensures
