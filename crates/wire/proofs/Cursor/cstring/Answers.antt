use Rattle.wire.proofs.Strings.{cstring-8, cstring-19, cstring-taken}
use Rattle.wire.proofs.Cursor.cstring.Goals as goal

pub returns-in_default : goal.returns-in_default
returns-in_default c = cstring-8 _ _ _ c.in_default.ensures

pub returns-then-limit-len : goal.returns-then-limit-len
returns-then-limit-len c = cstring-19 _ _ _ c.in-Some.ensures c.if-limit-len.true

pub returns : goal.returns
returns c = (cstring-taken _ _ _ c.in-Some.ensures c.if-limit-len.false).0
