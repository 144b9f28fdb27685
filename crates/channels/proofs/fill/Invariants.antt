use Rattle.std.proofs.Common.{◌≡◌, take}
use Rattle.patching.specs.Book.{taken_at, universe_words}
use Rattle.channels.proofs.fill.Given as goal

abbrev pub invariant-loop-i : goal.invariant-loop-i
invariant-loop-i l = l.words ≡ universe_words (taken_at (take l.i l.entries) l.universe)
