use Rattle.refusal.proofs.Handed.{handed}
use Rattle.writer.proofs.Calls.{calls}
use Rattle.writer.proofs.Writer.sfra.Goals as goal

pub returns-in_err-due : goal.returns-in_err-due
returns-in_err-due c = rw (handed c.from_residual.ensures) (search (calls, c.in_err-due.ensures))

pub returns-in_err-at : goal.returns-in_err-at
returns-in_err-at c = rw (handed c.from_residual-in_err-at.ensures) (search (calls, c.in_ok-due.ensures, c.in_err-at.ensures))

pub returns : goal.returns
returns c = search (calls, c.in_ok-due.ensures, c.in_ok-at.ensures)
