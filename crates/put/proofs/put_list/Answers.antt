use Rattle.put.proofs.Writing.{put-list}
use Rattle.put.proofs.put_list.Goals as goal

pub returns : goal.returns
returns g c = put-list g.T.ToBytes.format g.T.ToBytes.value c.args.values.now c.put_number_2-first.ensures c.put_values.ensures
