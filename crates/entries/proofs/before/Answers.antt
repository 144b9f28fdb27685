use Rattle.patching.proofs.Fields.{before_at}
use mathlib.Core.Path.{ap₂, ◌∙◌}
use lib.Dec.{ltb}
use Rattle.entries.proofs.before.Goals as goal

pub returns : goal.returns
returns c = let a = c.args in ap₂ ltb c.place.ensures.0 c.place-2.ensures.0 ∙ before_at a.entry a.other
