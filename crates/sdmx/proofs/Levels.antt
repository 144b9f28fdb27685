-- The size of a channel list.
use Rattle.std.proofs.Common.{◌≡◌, ◌+◌, ◌*◌, List, length, arith}
use Rattle.format.specs.Format.{Value, size}
use Rattle.format.proofs.Passing.{total-width}
use Rattle.protocol.specs.Kind.{channel_level_format}
use Rattle.sdmx.specs.Says.{chls}

-- it goes by the count of the records, whatever they hold
pub levels-size : (xs : List (Value channel_level_format)) → size chls xs ≡ 2 + 4 * length xs
unfolding size
levels-size xs = rw (total-width channel_level_format (tt, (tt, tt)) xs) (omega arith)
