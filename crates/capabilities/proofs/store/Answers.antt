use mathlib.Core.Path.{sym}
use native.Mathlib.Omega.{arith}
use lib.Seq.{set_out}
use Rattle.capabilities.proofs.store.Goals as goal

-- past the end nothing is stored
pub returns-else-n-offsets : goal.returns-else-n-offsets
returns-else-n-offsets c = sym (set_out _ _ _ (omega arith))
