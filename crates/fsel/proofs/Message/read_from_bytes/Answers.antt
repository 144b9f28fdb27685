use native.Mathlib.Omega.{arith}
use borrow.Author.Tests.{ne_eqb}
use Rattle.std.proofs.Common.{sym}
use Rattle.protocol.specs.Layer.{FSEL, find}
use Rattle.protocol.specs.Kind as kind
use Rattle.protocol.specs.Kind.{kind_of, content_type}
use Rattle.protocol.proofs.Arms.{arm, no_arm}
use Rattle.refusal.proofs.Handed.{handed}
use Rattle.fsel.proofs.Message.read_from_bytes.Goals as goal

pub returns-in_err-m-in-1701602643 : goal.returns-in_err-m-in-1701602643
returns-in_err-m-in-1701602643 c = rw (handed c.from_residual.ensures) (arm kind.Sele _ c.in-1701602643.is (sym (c.in_err-m-in-1701602643.ensures)))

pub returns-in_ok-m-in-1701602643 : goal.returns-in_ok-m-in-1701602643
returns-in_ok-m-in-1701602643 c = arm kind.Sele _ c.in-1701602643.is (sym (c.in_ok-m-in-1701602643.ensures))

pub returns-in_err-m-in-1699964228 : goal.returns-in_err-m-in-1699964228
returns-in_err-m-in-1699964228 c = rw (handed c.from_residual-in_err-m-in-1699964228.ensures) (arm kind.DeSe _ c.in-1699964228.is (sym
    (c.in_err-m-in-1699964228.ensures)))

pub returns-in_ok-m-in-1699964228 : goal.returns-in_ok-m-in-1699964228
returns-in_ok-m-in-1699964228 c = arm kind.DeSe _ c.in-1699964228.is (sym (c.in_ok-m-in-1699964228.ensures))

-- a content type of no kind of the layer
pub returns-in_default : goal.returns-in_default
unfolding kind_of find
returns-in_default c = let type = c.args.content_type in no_arm FSEL type _ (rw (
  ne_eqb (content_type kind.Sele) type (omega arith),
  ne_eqb (content_type
      kind.DeSe) type (omega arith),
))
