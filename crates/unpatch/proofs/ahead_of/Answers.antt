use native.Mathlib.Omega.{arith}
use Rattle.std.proofs.Common.{◌≡◌, [], ◌∷◌, length, refl, ◌∙◌, arith, ne_eqb}
use Rattle.unpatch.proofs.Listed.{among_one}
use Rattle.unpatch.proofs.Passes.{stay-next}
use Rattle.unpatch.proofs.ahead_of.Goals as goal

pub loop-i-init : goal.loop-i-init
loop-i-init c = (omega arith, refl)

pub returns-then-identifier-dropped : goal.returns-then-identifier-dropped
returns-then-identifier-dropped c = c.loop-i.invariant

pub loop-i-preserved : goal.loop-i-preserved
loop-i-preserved c = let a = c.args in
    let l = c.loop-i in
    stay-next (a.dropped ∷ []) a.entries.now l.invariant (omega arith)
    (among_one a.dropped _ ∙ ne_eqb a.dropped _ (λ e. omega (arith, c.identifier.ensures)))

pub returns : goal.returns
returns c = let end : c.loop-i.i ≡ length c.args.entries.now = omega arith in rw end at c.loop-i.invariant
