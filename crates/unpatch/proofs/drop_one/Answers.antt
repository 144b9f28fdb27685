use native.Mathlib.Omega.{arith}
use Rattle.std.proofs.Common.{sym, ◌∙◌, arith, eq-eqb, ne_eqb}
use Rattle.unpatch.proofs.Listed.{among_one}
use Rattle.unpatch.proofs.Passes.{from, drop-next, keep_one, dropped as all-dropped}
use Rattle.unpatch.proofs.drop_one.Goals as goal
use Rattle.unpatch.proofs.drop_one.Goals.{then-identifier-dropped, else-identifier-dropped}

pub loop-i-init : goal.loop-i-init
loop-i-init c = from c.ahead_of-from.ensures

pub loop-i-preserved : goal.loop-i-preserved
loop-i-preserved c = let l = c.loop-i in
    elim c.if-identifier-dropped.branch [
      | then-identifier-dropped w ↦ rw (w.entries-is, w.kept-is)
          (keep_one l.invariant (omega arith)
          (among_one c.args.dropped _ ∙ ne_eqb c.args.dropped _ (λ e. w.if-identifier-dropped.true (c.identifier.ensures ∙ sym e))))
      | else-identifier-dropped w ↦ rw (w.entries-is, w.kept-is)
          (drop-next l.invariant (omega arith)
          (among_one c.args.dropped _ ∙ eq-eqb c.args.dropped _ (omega (arith, c.identifier.ensures, w.if-identifier-dropped.false))))
    ]

pub shape_of-entries : goal.shape_of-entries
shape_of-entries c = c.loop-i.invariant.keeping.as_many

pub returns : goal.returns
returns c = all-dropped c.loop-i.invariant (omega arith)
