use Rattle.text.proofs.Loops.{Onto}
use Rattle.lines.specs.Lines.{item_lines}
use Rattle.lines.proofs.put_items.Given as goal

abbrev pub invariant-loop-next : goal.invariant-loop-next
invariant-loop-next g l =
    let lines = item_lines (g.P.ItemLines.listed l.p) l.body in
    Onto l.from (lines l.rest.at (g.N.Count.number l.rest.left)) l.next l.out
    (lines l.initial.rest.at (g.N.Count.number l.initial.rest.left)) l.at l.initial.out

abbrev pub decreases-loop-next : goal.decreases-loop-next
decreases-loop-next g l = g.N.Count.number l.rest.left
