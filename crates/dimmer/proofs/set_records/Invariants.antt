use Rattle.dimmer.proofs.Records.{Setting-on}
use Rattle.dimmer.proofs.set_records.Given as goal

abbrev pub invariant-loop-i : goal.invariant-loop-i
invariant-loop-i l = Setting-on l.universe_index l.body l.list.at l.list.left l.initial.levels l.i l.levels
