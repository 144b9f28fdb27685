use Rattle.std.proofs.Common.{arith}
use Rattle.patching.proofs.Fields.{channel-lt, count-lt}
use Rattle.entries.proofs.misfits.Goals as goal

pub overflow_add-result : goal.overflow_add-result
overflow_add-result c = let e = c.args.entry in
    omega (arith, channel-lt e, count-lt e)
