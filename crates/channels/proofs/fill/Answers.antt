use native.Mathlib.Omega.{arith}
use Rattle.std.proofs.Common.{ℕ, List, ap, ◌∙◌, arith, take_all}
use Rattle.patching.specs.Book.{taken_at, universe_words}
use Rattle.channels.proofs.fill.Goals as goal

pub loop-i-init : goal.loop-i-init
loop-i-init c = c.requires

pub mark-requires : goal.mark-requires
mark-requires c = (omega arith, c.loop-i.invariant)

pub loop-i-preserved : goal.loop-i-preserved
loop-i-preserved c = c.mark.ensures

pub returns : goal.returns
returns c = let l = c.loop-i in
    let a = c.args in
    l.invariant ∙ ap (λ (k : List ℕ). universe_words (taken_at k a.universe)) (take_all l.i a.entries.now (omega arith))
