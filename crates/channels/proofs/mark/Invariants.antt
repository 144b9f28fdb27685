use Rattle.std.proofs.Common.{◌≡◌, ℕ, ◌-◌, ◌≤◌, ◌&&◌, ◌||◌, ltb, leb, take}
use Rattle.patching.specs.Book.{taken_at, universe_words}
use Rattle.channels.proofs.mark.Given as goal

abbrev pub invariant-loop-from : goal.invariant-loop-from
invariant-loop-from l = (l.at ≤ l.from) × (l.from ≤ l.to)
    × (l.words ≡ universe_words (λ (c : ℕ). taken_at (take l.i l.entries) l.universe c || (leb l.at c && ltb c l.from)))

abbrev pub decreases-loop-from : goal.decreases-loop-from
decreases-loop-from l = l.to - l.from
