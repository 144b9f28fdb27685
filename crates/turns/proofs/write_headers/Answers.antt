use Rattle.refusal.proofs.Handed.{handed}
use Rattle.put.proofs.Writing.{put-pair}
use Rattle.put.proofs.Bodies.{refused, taken}
use Rattle.turns.proofs.Laws.{headers-weighed}
use Rattle.turns.proofs.write_headers.Goals as goal

pub returns-in_err-weigh : goal.returns-in_err-weigh
returns-in_err-weigh c = rw (handed c.from_residual.ensures) (refused _ (headers-weighed _ _ c.header_length.ensures c.in_err-weigh.ensures))

pub returns : goal.returns
returns c = taken (headers-weighed _ _ c.header_length.ensures c.in_ok-weigh.ensures)
    (put-pair (rw (c.cookie.ensures, c.layer.ensures) at c.put-at.ensures) c.put_layer_header.ensures)
