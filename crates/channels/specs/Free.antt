-- The answer for a universe's first free channel, if any.
use Rattle.std.specs.Prelude.{ℕ, Option, Some, None}
use Rattle.std.proofs.Math.Option.{none, some}
use Rattle.std.proofs.Math.Option as math

-- the channel, or none
abbrev pub free_of : math.Option ℕ → Option ℕ
free_of (some c) = Some c
free_of none = None
