use Rattle.channels.proofs.Spans.{none_yet}
use Rattle.channels.proofs.words_of.Goals as goal

pub fill-requires : goal.fill-requires
fill-requires c = none_yet c.args.universe
