use Rattle.format.specs.Format.{encode, encode_number}
use Rattle.put.proofs.Writing.{put_then}
use Rattle.put.proofs.put_ucs2.Goals as goal

pub returns : goal.returns
unfolding encode encode_number
returns c = record { writes = put_then c.put_values-end.ensures c.put_u16.ensures.writes }
