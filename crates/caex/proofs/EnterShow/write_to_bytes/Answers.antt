use Rattle.format.specs.Format.{size}
use Rattle.refusal.proofs.Handed.{handed}
use Rattle.put.proofs.Bodies.{bodies}
use Rattle.caex.proofs.EnterShow.write_to_bytes.Goals as goal

pub returns-in_err-weigh : goal.returns-in_err-weigh
unfolding size
returns-in_err-weigh c = rw (handed c.from_residual.ensures) (search (bodies, c.in_err-weigh.ensures) depth 20)

pub returns : goal.returns
unfolding size
returns c = search (bodies, c.in_ok-weigh.ensures) depth 20
