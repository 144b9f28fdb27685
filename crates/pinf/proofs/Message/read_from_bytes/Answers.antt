use native.Mathlib.Omega.{arith}
use borrow.Author.Tests.{ne_eqb}
use Rattle.std.proofs.Common.{sym}
use Rattle.protocol.specs.Layer.{PINF, find}
use Rattle.protocol.specs.Kind as kind
use Rattle.protocol.specs.Kind.{kind_of, content_type}
use Rattle.protocol.proofs.Arms.{arm, no_arm}
use Rattle.refusal.proofs.Handed.{handed}
use Rattle.pinf.proofs.Message.read_from_bytes.Goals as goal

pub returns-in_err-m-in-1835093584 : goal.returns-in_err-m-in-1835093584
returns-in_err-m-in-1835093584 c = rw (handed c.from_residual.ensures) (arm kind.PNam _ c.in-1835093584.is (sym (c.in_err-m-in-1835093584.ensures)))

pub returns-in_ok-m-in-1835093584 : goal.returns-in_ok-m-in-1835093584
returns-in_ok-m-in-1835093584 c = arm kind.PNam _ c.in-1835093584.is (sym (c.in_ok-m-in-1835093584.ensures))

pub returns-in_err-m-in-1668238416 : goal.returns-in_err-m-in-1668238416
returns-in_err-m-in-1668238416 c = rw (handed c.from_residual-in_err-m-in-1668238416.ensures) (arm kind.PLoc _ c.in-1668238416.is (sym (c.in_err-m-in-1668238416.ensures)))

pub returns-in_ok-m-in-1668238416 : goal.returns-in_ok-m-in-1668238416
returns-in_ok-m-in-1668238416 c = arm kind.PLoc _ c.in-1668238416.is (sym (c.in_ok-m-in-1668238416.ensures))

-- a content type of no kind of the layer
pub returns-in_default : goal.returns-in_default
unfolding kind_of find
returns-in_default c = let type = c.args.content_type in no_arm PINF type _ (rw (ne_eqb (content_type kind.PNam) type (omega arith), ne_eqb (content_type kind.PLoc) type (omega arith)))
