use Rattle.refusal.proofs.Handed.{handed}
use Rattle.writer.proofs.Calls.{out-of-turn, close-refused, closed}
use Rattle.writer.proofs.Writer.close.Goals as goal

pub returns-in_err-due : goal.returns-in_err-due
returns-in_err-due c = rw (handed c.from_residual.ensures) (out-of-turn _ _ _ c.is_close.ensures c.in_err-due.ensures)

pub returns-in_err-weigh : goal.returns-in_err-weigh
returns-in_err-weigh c = rw (handed c.from_residual-in_err-weigh.ensures) (close-refused _ _ c.is_close.ensures c.in_ok-due.ensures _ c.in_err-weigh.ensures)

pub returns : goal.returns
returns c = closed _ _ c.is_close.ensures c.in_ok-due.ensures c.in_ok-weigh.ensures c.put_number_4.ensures
