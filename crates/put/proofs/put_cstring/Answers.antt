use Rattle.format.specs.Format.{encode, encode_number}
use Rattle.put.proofs.Writing.{put_then}
use Rattle.put.proofs.put_cstring.Goals as goal

pub returns : goal.returns
unfolding encode encode_number
returns c = record { writes = put_then c.put_bytes-end.ensures c.put_u8.ensures.writes }
