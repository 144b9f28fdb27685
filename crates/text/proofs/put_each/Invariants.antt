use Rattle.text.proofs.Loops.{Each}
use Rattle.text.proofs.put_each.Given as goal

abbrev pub invariant-loop-byte : goal.invariant-loop-byte
invariant-loop-byte g l = Each l.from (g.P.ByteText.text l.p) l.s l.byte-index l.next l.out l.at l.initial.out
