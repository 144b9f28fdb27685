use Rattle.dimmer.proofs.Calls.{needs}
use Rattle.dimmer.proofs.Dimmer.set_list.Goals as goal

pub returns-then-names_past : goal.returns-then-names_past
returns-then-names_past c = search needs

pub returns : goal.returns
returns c = search needs
