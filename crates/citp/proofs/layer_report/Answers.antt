use mathlib.Core.Path.{sym}
use native.Mathlib.Omega.{arith}
use Rattle.layers.specs.Says.{layer_is}
use Rattle.citp.proofs.Reports.{layer-unread, layer-read}
use Rattle.citp.proofs.layer_report.Goals as goal

pub returns-in_default : goal.returns-in_default
returns-in_default c = let a = c.args in
    rw c.number-in_default.ensures
    (layer-unread (layer_is a.layer) a.at a.packet.now (omega (arith, c.header_length-length.ensures, c.if-packet-length.false)) (sym c.in_default.ensures))

pub returns : goal.returns
returns c = let a = c.args in
    let n = c.header_length-length.ensures in
    layer-read (layer_is a.layer) a.at a.packet.now n (omega (arith, c.if-packet-length.false)) (sym c.in-Ok.ensures) c.body_report.ensures
