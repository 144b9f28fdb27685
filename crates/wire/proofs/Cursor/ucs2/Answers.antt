use Rattle.wire.proofs.Strings.{ucs2-8, ucs2-19, ucs2-taken}
use Rattle.wire.proofs.Cursor.ucs2.Goals as goal

pub returns-in_default : goal.returns-in_default
returns-in_default c = ucs2-8 _ _ _ c.in_default.ensures

pub returns-then-limit-n : goal.returns-then-limit-n
returns-then-limit-n c = ucs2-19 _ _ _ c.in-Some.ensures c.if-limit-n.true

pub returns : goal.returns
returns c = (ucs2-taken _ _ _ c.in-Some.ensures c.if-limit-n.false).0
