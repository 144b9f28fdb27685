use Rattle.std.proofs.Common.{arith}
use Rattle.patching.proofs.Fields.{count-lt}
use Rattle.entries.proofs.shares.Goals as goal

pub overflow_add-other_end : goal.overflow_add-other_end
overflow_add-other_end c = omega (arith, count-lt c.args.other)

pub overflow_add-place : goal.overflow_add-place
overflow_add-place c = omega (arith, count-lt c.args.entry)
