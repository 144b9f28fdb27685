use Rattle.format.specs.Format.{size}
use Rattle.refusal.proofs.Handed.{handed}
use Rattle.put.proofs.Heads.{counted}
use Rattle.caex.proofs.FixtureList.write_head.Goals as goal

pub returns-in_err-weigh : goal.returns-in_err-weigh
unfolding size
returns-in_err-weigh c = rw (handed c.from_residual.ensures) (search (counted, c.in_err-weigh.ensures) depth 20)

pub returns : goal.returns
unfolding size
returns c = search (counted, c.in_ok-weigh.ensures) depth 20
