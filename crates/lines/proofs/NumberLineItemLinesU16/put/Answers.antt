use Rattle.lines.proofs.Fields.{lists-decimal}
use Rattle.lines.proofs.NumberLineItemLinesU16.put.Goals as goal

pub returns : goal.returns
returns c = lists-decimal (rw c.from.ensures at c.put_decimal_line.ensures)
