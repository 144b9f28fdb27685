use Rattle.wire.proofs.Copying.{ucs2-copy-8, ucs2-copy-13, ucs2-copied}
use Rattle.wire.proofs.copy_ucs2.Goals as goal

pub returns-in_default : goal.returns-in_default
returns-in_default c = ucs2-copy-8 _ _ _ c.in_default.ensures

pub returns-then-out-n : goal.returns-then-out-n
returns-then-out-n c = ucs2-copy-13 _ _ _ c.in-Some.ensures c.if-out-n.true

pub returns : goal.returns
returns c = ucs2-copied _ _ _ c.in-Some.ensures c.if-out-n.false c.copy_units.ensures
