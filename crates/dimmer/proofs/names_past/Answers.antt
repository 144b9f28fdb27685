use Rattle.dimmer.proofs.Calls.{needs}
use Rattle.dimmer.proofs.names_past.Goals.{else-x-ge-CHANNELS-via-then-x-ge-CHANNELS+else-x-universe_index, else-x-ge-CHANNELS-via-else-x-ge-CHANNELS}
use Rattle.dimmer.proofs.names_past.Goals as goal

pub returns-then-x-universe_index : goal.returns-then-x-universe_index
returns-then-x-universe_index c = search needs

pub loop-i-preserved : goal.loop-i-preserved
loop-i-preserved c =
    elim c.else-x-ge-CHANNELS.branch [
      | else-x-ge-CHANNELS-via-then-x-ge-CHANNELS+else-x-universe_index w ↦ search needs
      | else-x-ge-CHANNELS-via-else-x-ge-CHANNELS w ↦ search needs
    ]

pub returns : goal.returns
returns c = search needs
