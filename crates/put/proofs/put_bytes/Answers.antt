use Rattle.put.proofs.Writing.{bytes-more}
use Rattle.put.proofs.put_bytes.Goals as goal

pub loop-b-preserved : goal.loop-b-preserved
loop-b-preserved c = bytes-more c.args.bytes.now c.loop-b.b-index c.loop-b-test.true c.loop-b.invariant c.put_byte-next.ensures
