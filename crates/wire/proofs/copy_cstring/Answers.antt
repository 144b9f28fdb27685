use Rattle.wire.proofs.Copying.{cstring-copy-8, cstring-copy-13, cstring-copied}
use Rattle.wire.proofs.copy_cstring.Goals as goal

pub returns-in_default : goal.returns-in_default
returns-in_default c = cstring-copy-8 _ _ _ c.in_default.ensures

pub returns-then-out-len : goal.returns-then-out-len
returns-then-out-len c = cstring-copy-13 _ _ _ c.in-Some.ensures c.if-out-len.true

pub returns : goal.returns
returns c = cstring-copied _ _ _ c.in-Some.ensures c.if-out-len.false c.copy_bytes.ensures
