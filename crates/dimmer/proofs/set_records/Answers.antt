use Rattle.dimmer.proofs.Calls.{needs}
use Rattle.dimmer.proofs.set_records.Goals.{then-x-universe_index, else-x-universe_index}
use Rattle.dimmer.proofs.set_records.Goals as goal

pub bounds-levels-x : goal.bounds-levels-x
bounds-levels-x c = search needs

pub loop-i-preserved : goal.loop-i-preserved
loop-i-preserved c =
    elim c.if-x-universe_index.branch [ then-x-universe_index w ↦ rw w.levels-is (search needs) | else-x-universe_index w ↦ rw w.levels-is (search needs) ]

pub returns : goal.returns
returns c = search needs
