use Rattle.std.proofs.Common.{◌<◌, arith}
use Rattle.patching.specs.Entry.{channel}
use Rattle.patching.proofs.Fields.{channel-lt}
use Rattle.channels.proofs.offset.Goals as goal

pub returns-then-at-lt512 : goal.returns-then-at-lt512
returns-then-at-lt512 c = let e = c.args.entry in
    let n : channel e < 65536 = channel-lt e in
    (c.if-at-lt512.true, omega arith, omega arith)

pub returns-else-at-lt512 : goal.returns-else-at-lt512
returns-else-at-lt512 c = let e = c.args.entry in
    let n : channel e < 65536 = channel-lt e in
    λ u. omega arith
