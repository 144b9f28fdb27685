use Rattle.std.proofs.Common.{◌≡◌, ◌*◌, not}
use Rattle.patching.specs.Bits.{first}
use Rattle.patching.specs.Book.{taken_at}
use Rattle.channels.proofs.first_free.Given as goal

abbrev pub invariant-loop-k : goal.invariant-loop-k
invariant-loop-k l = first (λ c. not (taken_at l.entries l.universe c)) (l.k * 64) ≡ l.k * 64
