use native.Mathlib.Omega.{arith}
use borrow.Author.Tests.{ne_eqb}
use Rattle.std.proofs.Common.{sym}
use Rattle.protocol.specs.Layer.{FINF, find}
use Rattle.protocol.specs.Kind as kind
use Rattle.protocol.specs.Kind.{kind_of, content_type}
use Rattle.protocol.proofs.Arms.{arm, no_arm}
use Rattle.refusal.proofs.Handed.{handed}
use Rattle.finf.proofs.Message.read_from_bytes.Goals as goal

pub returns-in_err-m-in-1634879059 : goal.returns-in_err-m-in-1634879059
returns-in_err-m-in-1634879059 c = rw (handed c.from_residual.ensures) (arm kind.SFra _ c.in-1634879059.is (sym (c.in_err-m-in-1634879059.ensures)))

pub returns-in_ok-m-in-1634879059 : goal.returns-in_ok-m-in-1634879059
returns-in_ok-m-in-1634879059 c = arm kind.SFra _ c.in-1634879059.is (sym (c.in_ok-m-in-1634879059.ensures))

pub returns-in_err-m-in-1835102790 : goal.returns-in_err-m-in-1835102790
returns-in_err-m-in-1835102790 c = rw (handed c.from_residual-in_err-m-in-1835102790.ensures) (arm kind.Fram _ c.in-1835102790.is (sym
    (c.in_err-m-in-1835102790.ensures)))

pub returns-in_ok-m-in-1835102790 : goal.returns-in_ok-m-in-1835102790
returns-in_ok-m-in-1835102790 c = arm kind.Fram _ c.in-1835102790.is (sym (c.in_ok-m-in-1835102790.ensures))

-- a content type of no kind of the layer
pub returns-in_default : goal.returns-in_default
unfolding kind_of find
returns-in_default c = let type = c.args.content_type in no_arm FINF type _ (rw (
  ne_eqb (content_type kind.SFra) type (omega arith),
  ne_eqb (content_type
      kind.Fram) type (omega arith),
))
