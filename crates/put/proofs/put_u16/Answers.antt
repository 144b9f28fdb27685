use Rattle.format.specs.Format.{encode, encode_number}
use Rattle.put.proofs.put_u16.Goals as goal

pub returns : goal.returns
unfolding encode encode_number
returns c = record { writes = rw c.to_le_bytes.ensures at c.put_array.ensures }
