use native.Mathlib.Omega.{arith}
use borrow.Author.Tests.{ne_eqb}
use Rattle.std.proofs.Common.{sym}
use Rattle.protocol.specs.Layer.{FPTC, find}
use Rattle.protocol.specs.Kind as kind
use Rattle.protocol.specs.Kind.{kind_of, content_type}
use Rattle.protocol.proofs.Arms.{arm, no_arm}
use Rattle.refusal.proofs.Handed.{handed}
use Rattle.fptc.proofs.Message.read_from_bytes.Goals as goal

pub returns-in_err-m-in-1751348304 : goal.returns-in_err-m-in-1751348304
returns-in_err-m-in-1751348304 c = rw (handed c.from_residual.ensures) (arm kind.Ptch _ c.in-1751348304.is (sym (c.in_err-m-in-1751348304.ensures)))

pub returns-in_ok-m-in-1751348304 : goal.returns-in_ok-m-in-1751348304
returns-in_ok-m-in-1751348304 c = arm kind.Ptch _ c.in-1751348304.is (sym (c.in_ok-m-in-1751348304.ensures))

pub returns-in_err-m-in-1668567125 : goal.returns-in_err-m-in-1668567125
returns-in_err-m-in-1668567125 c =
    rw (handed c.from_residual-in_err-m-in-1668567125.ensures) (arm kind.UPtc _ c.in-1668567125.is (sym (c.in_err-m-in-1668567125.ensures)))

pub returns-in_ok-m-in-1668567125 : goal.returns-in_ok-m-in-1668567125
returns-in_ok-m-in-1668567125 c = arm kind.UPtc _ c.in-1668567125.is (sym (c.in_ok-m-in-1668567125.ensures))

pub returns-in_err-m-in-1668567123 : goal.returns-in_err-m-in-1668567123
returns-in_err-m-in-1668567123 c =
    rw (handed c.from_residual-in_err-m-in-1668567123.ensures) (arm kind.SPtc _ c.in-1668567123.is (sym (c.in_err-m-in-1668567123.ensures)))

pub returns-in_ok-m-in-1668567123 : goal.returns-in_ok-m-in-1668567123
returns-in_ok-m-in-1668567123 c = arm kind.SPtc _ c.in-1668567123.is (sym (c.in_ok-m-in-1668567123.ensures))

-- a content type of no kind of the layer
pub returns-in_default : goal.returns-in_default
unfolding kind_of find
returns-in_default c =
    let type = c.args.content_type in
    no_arm FPTC type _
    (rw (
      ne_eqb (content_type kind.Ptch) type (omega arith),
      ne_eqb (content_type kind.UPtc) type (omega arith),
      ne_eqb (content_type kind.SPtc) type (omega arith),
    ))
