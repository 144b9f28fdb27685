use Rattle.put.proofs.Writing.{put-pair, put-cstring, cstring-pair}
use Rattle.fptc.proofs.Ptch.put.Goals as goal

pub returns : goal.returns
returns c = search (put-pair, put-cstring, cstring-pair) depth 9
