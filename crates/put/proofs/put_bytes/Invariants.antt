use Rattle.std.proofs.Common.{take}
use Rattle.put.specs.Put.{Puts}
use Rattle.put.proofs.put_bytes.Given as goal

abbrev pub invariant-loop-b : goal.invariant-loop-b
invariant-loop-b l = Puts (take l.b-index l.bytes) l.at l.initial.out l.next l.out
