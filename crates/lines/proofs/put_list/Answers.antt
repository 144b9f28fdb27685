use Rattle.lines.proofs.Fields.{lists-each}
use Rattle.lines.proofs.put_list.Goals as goal

pub returns : goal.returns
returns g c = lists-each (rw c.items.ensures at c.put_decimal_line-at.ensures) c.put_items.ensures
