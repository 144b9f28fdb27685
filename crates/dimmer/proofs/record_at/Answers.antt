use Rattle.dimmer.proofs.Calls.{needs}
use Rattle.dimmer.proofs.record_at.Goals as goal

pub unwrap-requires : goal.unwrap-requires
unwrap-requires c = search needs

pub returns : goal.returns
returns c = search needs
