-- The smallest fixture: 50 bytes.
use Prim.Native.Nat.{◌≤◌}
use mathlib.Core.Path.{◌≡◌, refl}
use Rattle.format.specs.Format.{Value, total, size}
use Rattle.format.proofs.Width.{bare, bare-smallest}
use Rattle.protocol.specs.Kind.{fixture_format}

pub smallest-fixture : ((x : Value fixture_format) → 50 ≤ size fixture_format x) × (size fixture_format (bare fixture_format) ≡ 50)
unfolding size total
smallest-fixture = (bare-smallest fixture_format, refl)
