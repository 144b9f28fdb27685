use Rattle.lines.proofs.Fields.{lists-decimal}
use Rattle.lines.proofs.NumberLineItemLinesU32.put.Goals as goal

pub returns : goal.returns
returns c = lists-decimal c.put_decimal_line.ensures
