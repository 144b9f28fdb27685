use native.Mathlib.Omega.{arith}
use Rattle.std.proofs.Common.{◌≡◌, true, false, length, get_or, sym, ap, ◌∙◌, arith}
use lib.Seq.{take-length}
use Rattle.format.specs.Fault.{any}
use Rattle.patching.proofs.Loops.{any_step, any-stop}
use Rattle.unpatch.specs.Unpatch.{lies_in}
use Rattle.unpatch.proofs.Ranges.{within-some}
use Rattle.unpatch.proofs.any_within.Goals as goal

pub loop-x-init : goal.loop-x-init
loop-x-init c = ap (any (lies_in c.args.base)) (take-length c.args.entries.now)

pub returns-then-is_some : goal.returns-then-is_some
returns-then-is_some c = let a = c.args in
    let i = c.loop-x.x-index in
    let o = within-some a.base _ _ (rw c.identifier.ensures at c.offset.ensures) in
    let e : lies_in a.base (get_or a.entries.now i 0) ≡ true = sym o ∙ sym c.is_some.ensures ∙ c.if-is_some.true in
    sym (any_step a.entries.now (length a.entries.now) (omega arith) (lies_in a.base) i 0 true (omega arith) e) ∙ c.loop-x.invariant

pub loop-x-preserved : goal.loop-x-preserved
loop-x-preserved c = let a = c.args in
    let i = c.loop-x.x-index in
    let o = within-some a.base _ _ (rw c.identifier.ensures at c.offset.ensures) in
    let e : lies_in a.base (get_or a.entries.now i 0) ≡ false = sym o ∙ sym c.is_some.ensures ∙ c.if-is_some.false in
    sym (any_step a.entries.now (length a.entries.now) (omega arith) (lies_in a.base) i 0 false (omega arith) e) ∙ c.loop-x.invariant

pub returns : goal.returns
returns c = let a = c.args in
    sym (any-stop a.entries.now (length a.entries.now) (omega arith) (lies_in a.base) c.loop-x.x-index (omega arith)) ∙ c.loop-x.invariant
