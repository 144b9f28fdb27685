use native.Mathlib.Omega.{arith}
use borrow.Author.Tests.{ne_eqb}
use Rattle.std.proofs.Common.{sym}
use Rattle.protocol.specs.Layer.{SDMX, find}
use Rattle.protocol.specs.Kind as kind
use Rattle.protocol.specs.Kind.{kind_of, content_type}
use Rattle.protocol.proofs.Arms.{arm, no_arm}
use Rattle.refusal.proofs.Handed.{handed}
use Rattle.sdmx.proofs.Message.read_from_bytes.Goals as goal

pub returns-in_err-m-in-1634754883 : goal.returns-in_err-m-in-1634754883
returns-in_err-m-in-1634754883 c = rw (handed c.from_residual.ensures) (arm kind.Capa _ c.in-1634754883.is (sym (c.in_err-m-in-1634754883.ensures)))

pub returns-in_ok-m-in-1634754883 : goal.returns-in_ok-m-in-1634754883
returns-in_ok-m-in-1634754883 c = arm kind.Capa _ c.in-1634754883.is (sym (c.in_ok-m-in-1634754883.ensures))

pub returns-in_err-m-in-1835093589 : goal.returns-in_err-m-in-1835093589
returns-in_err-m-in-1835093589 c =
    rw (handed c.from_residual-in_err-m-in-1835093589.ensures) (arm kind.UNam _ c.in-1835093589.is (sym (c.in_err-m-in-1835093589.ensures)))

pub returns-in_ok-m-in-1835093589 : goal.returns-in_ok-m-in-1835093589
returns-in_ok-m-in-1835093589 c = arm kind.UNam _ c.in-1835093589.is (sym (c.in_ok-m-in-1835093589.ensures))

pub returns-in_err-m-in-1799514179 : goal.returns-in_err-m-in-1799514179
returns-in_err-m-in-1799514179 c =
    rw (handed c.from_residual-in_err-m-in-1799514179.ensures) (arm kind.ChBk _ c.in-1799514179.is (sym (c.in_err-m-in-1799514179.ensures)))

pub returns-in_ok-m-in-1799514179 : goal.returns-in_ok-m-in-1799514179
returns-in_ok-m-in-1799514179 c = arm kind.ChBk _ c.in-1799514179.is (sym (c.in_ok-m-in-1799514179.ensures))

pub returns-in_err-m-in-1934387267 : goal.returns-in_err-m-in-1934387267
returns-in_err-m-in-1934387267 c =
    rw (handed c.from_residual-in_err-m-in-1934387267.ensures) (arm kind.ChLs _ c.in-1934387267.is (sym (c.in_err-m-in-1934387267.ensures)))

pub returns-in_ok-m-in-1934387267 : goal.returns-in_ok-m-in-1934387267
returns-in_ok-m-in-1934387267 c = arm kind.ChLs _ c.in-1934387267.is (sym (c.in_ok-m-in-1934387267.ensures))

pub returns-in_err-m-in-1398102099 : goal.returns-in_err-m-in-1398102099
returns-in_err-m-in-1398102099 c =
    rw (handed c.from_residual-in_err-m-in-1398102099.ensures) (arm kind.Sxus _ c.in-1398102099.is (sym (c.in_err-m-in-1398102099.ensures)))

pub returns-in_ok-m-in-1398102099 : goal.returns-in_ok-m-in-1398102099
returns-in_ok-m-in-1398102099 c = arm kind.Sxus _ c.in-1398102099.is (sym (c.in_ok-m-in-1398102099.ensures))

-- a content type of no kind of the layer
pub returns-in_default : goal.returns-in_default
unfolding kind_of find
returns-in_default c =
    let type = c.args.content_type in
    no_arm SDMX type _
    (rw (
      ne_eqb (content_type kind.Capa) type (omega arith),
      ne_eqb (content_type kind.UNam) type (omega arith),
      ne_eqb (content_type kind.ChBk) type (omega arith),
      ne_eqb (content_type kind.ChLs) type (omega arith),
      ne_eqb (content_type kind.Sxus) type (omega arith),
    ))
