use Rattle.dimmer.proofs.Calls.{needs, block-taken}
use Rattle.refusal.proofs.Handed.{handed}
use Rattle.dimmer.proofs.Dimmer.chbk.Goals as goal

pub returns-in_err-x : goal.returns-in_err-x
returns-in_err-x c = rw (handed c.from_residual.ensures) (search (needs, c.in_err-x.ensures))

pub returns : goal.returns
returns c = block-taken c.args.self.universe_index c.args.body.now c.args.levels.now c.in_ok-x.ensures c.set_block.ensures
