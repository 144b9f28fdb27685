use Rattle.std.proofs.Common.{take}
use Rattle.format.specs.Format.{concat_map, encode}
use Rattle.put.specs.Put.{Puts}
use Rattle.put.proofs.put_values.Given as goal

abbrev pub invariant-loop-x : goal.invariant-loop-x
invariant-loop-x g l = Puts (concat_map (λ x. encode g.T.ToBytes.format (g.T.ToBytes.value x)) (take l.x-index l.values)) l.at l.initial.out l.next l.out
