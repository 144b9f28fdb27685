use Rattle.std.proofs.Common.{◌≡◌, ◌*◌}
use Rattle.patching.specs.Bits.{many}
use Rattle.patching.specs.Book.{taken_at}
use Rattle.channels.proofs.taken.Given as goal

abbrev pub invariant-loop-word : goal.invariant-loop-word
invariant-loop-word l = l.taken ≡ many (taken_at l.entries l.universe) (l.word-index * 64)
