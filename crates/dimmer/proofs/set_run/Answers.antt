use Rattle.dimmer.proofs.Calls.{needs}
use Rattle.dimmer.proofs.set_run.Goals as goal

pub loop-i-preserved : goal.loop-i-preserved
loop-i-preserved c = search needs
