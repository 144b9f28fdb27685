use native.Mathlib.Omega.{arith}
use Rattle.std.proofs.Common.{◌≡◌, ◌*◌, length}
use Rattle.put.proofs.Sizes.{list-size}
use Rattle.format.proofs.Width.{width}
use Rattle.put.proofs.list_size.Goals as goal

pub returns : goal.returns
returns g c =
    let wide : length c.args.values.now * c.WIDTH.result ≡ length c.args.values.now * width g.T.ToBytes.format = rw (c.WIDTH.ensures, g.met.T.ToBytes.wide) in
    rw (list-size g.T.ToBytes.format g.met.T.ToBytes.plain g.T.ToBytes.value c.args.values.now, ← wide)
    (omega (arith, c.saturating_mul.ensures, c.saturating_add.ensures))
