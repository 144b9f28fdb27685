use native.Mathlib.Omega.{arith}
use borrow.Author.Tests.{ne_eqb}
use Rattle.std.proofs.Common.{sym}
use Rattle.protocol.specs.Layer.{CAEX, find}
use Rattle.protocol.specs.Kind as kind
use Rattle.protocol.specs.Kind.{kind_of, content_type}
use Rattle.protocol.proofs.Arms.{arm, no_arm}
use Rattle.refusal.proofs.Handed.{handed}
use Rattle.caex.proofs.Message.read_from_bytes.Goals as goal

pub returns-in_err-m-in-131328 : goal.returns-in_err-m-in-131328
returns-in_err-m-in-131328 c = rw (handed c.from_residual.ensures) (arm kind.EnterShow _ c.in-131328.is (sym (c.in_err-m-in-131328.ensures)))

pub returns-in_ok-m-in-131328 : goal.returns-in_ok-m-in-131328
returns-in_ok-m-in-131328 c = arm kind.EnterShow _ c.in-131328.is (sym (c.in_ok-m-in-131328.ensures))

pub returns-in_err-m-in-131585 : goal.returns-in_err-m-in-131585
returns-in_err-m-in-131585 c =
    rw (handed c.from_residual-in_err-m-in-131585.ensures)
    (arm kind.FixtureList _ c.in-131585.is (sym (c.in_err-m-in-131585.ensures)))

pub returns-in_ok-m-in-131585 : goal.returns-in_ok-m-in-131585
returns-in_ok-m-in-131585 c = arm kind.FixtureList _ c.in-131585.is (sym (c.in_ok-m-in-131585.ensures))

pub returns-in_err-m-in-131587 : goal.returns-in_err-m-in-131587
returns-in_err-m-in-131587 c =
    rw (handed c.from_residual-in_err-m-in-131587.ensures)
    (arm kind.FixtureRemove _ c.in-131587.is (sym (c.in_err-m-in-131587.ensures)))

pub returns-in_ok-m-in-131587 : goal.returns-in_ok-m-in-131587
returns-in_ok-m-in-131587 c = arm kind.FixtureRemove _ c.in-131587.is (sym (c.in_ok-m-in-131587.ensures))

pub returns-in_err-m-in-196866 : goal.returns-in_err-m-in-196866
returns-in_err-m-in-196866 c =
    rw (handed c.from_residual-in_err-m-in-196866.ensures)
    (arm kind.LaserFeedControl _ c.in-196866.is (sym (c.in_err-m-in-196866.ensures)))

pub returns-in_ok-m-in-196866 : goal.returns-in_ok-m-in-196866
returns-in_ok-m-in-196866 c = arm kind.LaserFeedControl _ c.in-196866.is (sym (c.in_ok-m-in-196866.ensures))

pub returns-in_err-m-in-196865 : goal.returns-in_err-m-in-196865
returns-in_err-m-in-196865 c =
    rw (handed c.from_residual-in_err-m-in-196865.ensures)
    (arm kind.LaserFeedList _ c.in-196865.is (sym (c.in_err-m-in-196865.ensures)))

pub returns-in_ok-m-in-196865 : goal.returns-in_ok-m-in-196865
returns-in_ok-m-in-196865 c = arm kind.LaserFeedList _ c.in-196865.is (sym (c.in_ok-m-in-196865.ensures))

pub returns-in_err-m-in-197120 : goal.returns-in_err-m-in-197120
returns-in_err-m-in-197120 c =
    rw (handed c.from_residual-in_err-m-in-197120.ensures)
    (arm kind.LaserFeedFrame _ c.in-197120.is (sym (c.in_err-m-in-197120.ensures)))

pub returns-in_ok-m-in-197120 : goal.returns-in_ok-m-in-197120
returns-in_ok-m-in-197120 c = arm kind.LaserFeedFrame _ c.in-197120.is (sym (c.in_ok-m-in-197120.ensures))

-- a content type of no kind of the layer
pub returns-in_default : goal.returns-in_default
unfolding kind_of find
returns-in_default c =
    let type = c.args.content_type in
    no_arm CAEX type _
    (rw (
      ne_eqb (content_type kind.EnterShow) type (omega arith),
      ne_eqb (content_type kind.FixtureList) type (omega arith),
      ne_eqb (content_type kind.FixtureRemove) type (omega arith),
      ne_eqb (content_type kind.LaserFeedControl) type (omega arith),
      ne_eqb (content_type kind.LaserFeedList) type (omega arith),
      ne_eqb (content_type kind.LaserFeedFrame) type (omega arith),
    ))
