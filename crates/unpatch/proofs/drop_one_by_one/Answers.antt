use native.Mathlib.Omega.{arith}
use Rattle.std.proofs.Common.{sym, refl, ◌∙◌, arith}
use Rattle.unpatch.proofs.Passes.{from, drop-next, keep_one, dropped}
use Rattle.unpatch.proofs.drop_one_by_one.Goals as goal
use Rattle.unpatch.proofs.drop_one_by_one.Goals.{then-not-is_dropped, else-not-is_dropped}

pub loop-i-init : goal.loop-i-init
loop-i-init c = from (omega arith, refl)

pub loop-i-preserved : goal.loop-i-preserved
loop-i-preserved c = let l = c.loop-i in
    elim c.if-not-is_dropped.branch [
      | then-not-is_dropped w ↦ rw (w.entries-is, w.kept-is)
          (keep_one l.invariant (omega arith) (rw c.identifier.ensures at (sym c.is_dropped.ensures ∙ w.if-not-is_dropped.true)))
      | else-not-is_dropped w ↦ rw (w.entries-is, w.kept-is)
          (drop-next l.invariant (omega arith) (rw c.identifier.ensures at (sym c.is_dropped.ensures ∙ w.if-not-is_dropped.false)))
    ]

pub shape_of-entries : goal.shape_of-entries
shape_of-entries c = c.loop-i.invariant.keeping.as_many

pub returns : goal.returns
returns c = dropped c.loop-i.invariant (omega arith)
