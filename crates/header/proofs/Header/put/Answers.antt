use Rattle.put.proofs.Writing.{put-pair}
use Rattle.header.proofs.Header.put.Goals as goal

-- one field behind the other
pub returns : goal.returns
returns c = put-pair c.put_u32-at.ensures (put-pair c.put_u8-at.ensures (put-pair c.put_u8-at-2.ensures (put-pair c.put_u16-at.ensures
    (put-pair c.put_u32-at-2.ensures (put-pair c.put_u16-at-2.ensures (put-pair c.put_u16-at-3.ensures c.put_u32.ensures))))))
