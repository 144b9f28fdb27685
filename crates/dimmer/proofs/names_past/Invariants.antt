use Rattle.dimmer.proofs.Records.{Looking}
use Rattle.dimmer.proofs.names_past.Given as goal

abbrev pub invariant-loop-i : goal.invariant-loop-i
invariant-loop-i l = Looking l.universe_index l.body l.list.at l.list.left l.i
