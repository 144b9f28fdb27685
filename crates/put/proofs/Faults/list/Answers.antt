use Rattle.std.proofs.Common.{sym, ◌∙◌}
use Rattle.put.proofs.Judging.{list-faults}
use Rattle.put.proofs.Faults.list.Goals as goal

pub returns : goal.returns
returns g c = c.count.ensures ∙ sym (list-faults c.args.self g.T.ToBytes.format g.met.T.ToBytes.plain g.T.ToBytes.value c.args.values.now)
