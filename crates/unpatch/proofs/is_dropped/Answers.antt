use native.Mathlib.Omega.{arith}
use Rattle.std.proofs.Common.{◌≡◌, ℕ, ◌/◌, length, sym, ap, ◌∙◌, arith}
use Rattle.format.specs.View.{units_of}
use Rattle.unpatch.specs.Unpatch.{listed_at}
use Rattle.patching.specs.Book.{among}
use Rattle.unpatch.proofs.Listed.{among_none, not_there, not_yet, found-there}
use Rattle.unpatch.proofs.is_dropped.Goals as goal

pub loop-i-init : goal.loop-i-init
unfolding units_of
loop-i-init c = (omega arith, among_none c.args.identifier)

pub returns-then-listed_at-identifier : goal.returns-then-listed_at-identifier
returns-then-listed_at-identifier c = let a = c.args in
    let i = c.loop-i.i in
    let e : listed_at a.identifiers.now i ≡ a.identifier = omega (arith, c.listed_at.ensures) in
    sym (found-there a.identifiers.now i (omega arith) a.identifier e)

pub loop-i-preserved : goal.loop-i-preserved
loop-i-preserved c = let a = c.args in
    let l = c.loop-i in
    let n : listed_at a.identifiers.now l.i ≡ a.identifier → ⊥ = λ e. omega (arith, c.listed_at.ensures) in
    (omega arith, not_yet a.identifiers.now l.i (omega arith) a.identifier l.invariant.1 n)

pub returns : goal.returns
returns c = let a = c.args in
    let l = c.loop-i in
    let e : l.i ≡ length a.identifiers.now / 2 = omega arith in
    not_there a.identifiers.now a.identifier (ap (λ (n : ℕ). among (units_of n a.identifiers.now) a.identifier) (sym e) ∙ l.invariant.1)
