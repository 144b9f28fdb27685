use Rattle.format.specs.Format.{encode}
use Rattle.put.proofs.Writing.{puts-none, puts-more}
use Rattle.put.proofs.put_values.Goals as goal

pub loop-x-init : goal.loop-x-init
loop-x-init g c = puts-none (λ x. encode g.T.ToBytes.format (g.T.ToBytes.value x))

pub loop-x-preserved : goal.loop-x-preserved
loop-x-preserved g c =
    puts-more (λ x. encode g.T.ToBytes.format (g.T.ToBytes.value x)) c.args.values.now c.loop-x.x-index c.loop-x-test.true c.x-item.is
    c.loop-x.invariant c.put-next.ensures.writes
