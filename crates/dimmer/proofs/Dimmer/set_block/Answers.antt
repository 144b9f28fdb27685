use Rattle.dimmer.proofs.Calls.{needs}
use Rattle.dimmer.proofs.Dimmer.set_block.Goals.{then-x-ne0-via-then-x-ne0, then-x-ne0-via-else-x-ne0+then-x-self}
use Rattle.dimmer.proofs.Dimmer.set_block.Goals as goal

pub returns-then-x-ne0 : goal.returns-then-x-ne0
returns-then-x-ne0 c =
    elim c.then-x-ne0.branch [ then-x-ne0-via-then-x-ne0 w ↦ search needs | then-x-ne0-via-else-x-ne0+then-x-self w ↦ search needs ]

pub returns-then-is_empty : goal.returns-then-is_empty
returns-then-is_empty c = search needs

pub returns-then-first-run-gt-CHANNELS : goal.returns-then-first-run-gt-CHANNELS
returns-then-first-run-gt-CHANNELS c = search needs

pub returns : goal.returns
returns c = search needs
