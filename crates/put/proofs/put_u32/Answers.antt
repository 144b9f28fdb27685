use native.Mathlib.Omega.{arith}
use Rattle.std.proofs.Common.{◌≡◌, ◌/◌}
use Rattle.format.specs.Format.{encode, encode_number}
use Rattle.put.proofs.put_u32.Goals as goal

pub returns : goal.returns
unfolding encode encode_number
returns c =
    let n = c.args.n in
    let e : n / 65536 ≡ n / 256 / 256 = omega arith in
    let f : n / 16777216 ≡ n / 256 / 256 / 256 = omega arith in
    record { writes = rw (c.to_le_bytes.ensures, e, f) at c.put_array.ensures }
