use Rattle.std.proofs.Common.{replicate, arith}
use lib.ListN.{length-replicate}
use Rattle.format.specs.Format.{Value}
use Rattle.protocol.specs.Kind.{channel_level_format}
use Rattle.sdmx.proofs.Levels.{levels-size}
use Rattle.sdmx.proofs.ChLs.size_bytes.Goals as goal

pub returns : goal.returns
returns c =
    let n = c.args.count in
    rw (levels-size (replicate n (0, (0, 0))), length-replicate {A = Value channel_level_format} n (0, (0, 0)))
    (omega (arith, c.saturating_mul.ensures, c.saturating_add.ensures))
