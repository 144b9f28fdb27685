use mathlib.Core.Path.{◌≡◌, sym}
use native.Mathlib.Omega.{arith}
use lib.ListN.{drop, length-drop}
use lib.Seq.{get_or-drop}
use Rattle.wire.proofs.Copying.{copy-next}
use Rattle.wire.proofs.copy_bytes.Goals as goal

pub loop-i-preserved : goal.loop-i-preserved
loop-i-preserved c = let a = c.args in
    let l = c.loop-i in
    let x = drop a.start a.body.now in
    let w = length-drop a.start a.body.now in
    let byte = sym (get_or-drop a.start a.body.now l.i 0) in
    copy-next a.out.now x (omega (arith, w)) (omega arith) byte l.invariant

pub returns : goal.returns
returns c = let a = c.args in let l = c.loop-i in let e : l.i ≡ a.len = omega arith in rw e at l.invariant
