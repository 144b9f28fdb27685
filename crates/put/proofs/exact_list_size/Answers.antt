use native.Mathlib.Omega.{arith}
use Rattle.std.proofs.Common.{◌≡◌, ◌*◌, length}
use Rattle.put.proofs.Sizes.{list-size}
use Rattle.format.proofs.Width.{width}
use Rattle.put.proofs.exact_list_size.Goals as goal

pub returns : goal.returns
returns g c =
    let wide : c.bytes.result ≡ length c.args.values.now * width g.T.ToBytes.format = rw g.met.T.ToBytes.wide c.bytes.ensures.number in
    rw (list-size g.T.ToBytes.format g.met.T.ToBytes.plain g.T.ToBytes.value c.args.values.now, ← wide)
    (omega (arith, c.bytes.ensures.number, c.bytes.ensures.fits))
